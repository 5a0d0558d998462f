-- With n not 0 the state counts one less.
use Rattle.ocb.specs.Machine.{phases-none, phases-more}
use borrow.Author.Rules.{rules}
use Rattle.ocb.proofs.phases_from.Goals as goal

pub returns-then-n-eq0 : goal.returns-then-n-eq0
returns-then-n-eq0 c = search (phases-none, rules)

pub returns : goal.returns
returns c = search (phases-more, rules)
