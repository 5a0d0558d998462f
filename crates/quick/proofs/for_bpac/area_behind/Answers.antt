-- The test is that of `area_behind`.
use Rattle.quick.specs.Bpac.{area_in, area-out}
use borrow.Author.Rules.{rules}
use Rattle.quick.proofs.for_bpac.area_behind.Goals as goal

pub returns-then-head_fits : goal.returns-then-head_fits
returns-then-head_fits c = search (area_in, rules)

pub returns : goal.returns
returns c = search (area-out, rules)
