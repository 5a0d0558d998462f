-- `is_off`: the reference latitude is less than the height of the grid, which is 22.4 degrees at most.
use Rattle.std.proofs.Common.{rules}
use Rattle.area.specs.Area.{area_off}
use Rattle.area.proofs.Steps.{never-off}
use Rattle.area.proofs.is_off.Goals as goal

pub returns-then-latitude-lt224 : goal.returns-then-latitude-lt224
unfolding area_off
returns-then-latitude-lt224 c = search rules

pub returns-else-latitude-lt224 : goal.returns-else-latitude-lt224
returns-else-latitude-lt224 c = search (never-off, rules)
