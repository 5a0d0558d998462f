-- With n not 0 the state counts one less.
use Rattle.ocb.specs.Machine.{codes-none, codes-more}
use borrow.Author.Rules.{rules}
use Rattle.ocb.proofs.codes_from.Goals as goal

pub returns-then-n-eq0 : goal.returns-then-n-eq0
returns-then-n-eq0 c = search (codes-none, rules)

pub returns : goal.returns
returns c = search (codes-more, rules)
