-- With n not 0 the state counts one less.
use Rattle.hpac.specs.Machine.{areas-more}
use borrow.Author.Rules.{rules}
use Rattle.hpac.proofs.areas_from.Goals as goal

pub returns : goal.returns
returns c = search (areas-more, rules)
