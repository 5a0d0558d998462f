-- `is_area`: the tests are those of `is_area`, in its order.
use Rattle.std.proofs.Common.{rules}
use Rattle.area.specs.Area.{is_area}
use Rattle.area.proofs.is_area.Goals as goal

pub returns-then-area-le3600 : goal.returns-then-area-le3600
unfolding is_area
returns-then-area-le3600 c = search rules

pub returns-else-area-le3600 : goal.returns-else-area-le3600
unfolding is_area
returns-else-area-le3600 c = search rules
