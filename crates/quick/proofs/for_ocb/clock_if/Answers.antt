-- The test is that of `clock_if`.
use Rattle.quick.specs.Ocb.{clock-none, clock-some}
use borrow.Author.Rules.{rules}
use Rattle.quick.proofs.for_ocb.clock_if.Goals as goal

pub returns-then-present-eq1 : goal.returns-then-present-eq1
returns-then-present-eq1 c = search (clock-some, rules)

pub returns : goal.returns
returns c = search (clock-none, rules)
