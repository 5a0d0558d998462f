-- The test is that of `phases_after`.
use Rattle.quick.specs.Ocb.{phases-in, phases-out}
use borrow.Author.Rules.{rules}
use Rattle.quick.proofs.for_ocb.phases_behind.Goals as goal

pub returns-then-phases_fit : goal.returns-then-phases_fit
returns-then-phases_fit c = search (phases-in, rules)

pub returns : goal.returns
returns c = search (phases-out, rules)
