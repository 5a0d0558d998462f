-- The test is that of `satellite_behind`.
use Rattle.quick.specs.Ocb.{satellite-off, satellite-on}
use borrow.Author.Rules.{rules}
use Rattle.quick.proofs.for_ocb.satellite_behind.Goals as goal

pub returns-then-get-eq1 : goal.returns-then-get-eq1
returns-then-get-eq1 c = search (satellite-off, rules)

pub returns : goal.returns
returns c = search (satellite-on, rules)
