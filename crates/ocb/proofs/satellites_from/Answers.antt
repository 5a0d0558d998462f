-- With n not 0 the state counts one less.
use Rattle.ocb.specs.Machine.{satellites-more}
use borrow.Author.Rules.{rules}
use Rattle.ocb.proofs.satellites_from.Goals as goal

pub returns : goal.returns
returns c = search (satellites-more, rules)
