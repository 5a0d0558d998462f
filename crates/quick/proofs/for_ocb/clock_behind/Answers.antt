-- The test is that of `clock_behind`.
use Rattle.quick.specs.Ocb.{clock-in, clock-top}
use borrow.Author.Rules.{rules}
use Rattle.quick.proofs.for_ocb.clock_behind.Goals as goal

pub returns-then-get-eq16383 : goal.returns-then-get-eq16383
returns-then-get-eq16383 c = search (clock-top, rules)

pub returns : goal.returns
returns c = search (clock-in, rules)
