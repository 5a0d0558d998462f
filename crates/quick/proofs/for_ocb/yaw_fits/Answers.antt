-- The tests are those of `yaw_fits`, in its order.
use Rattle.quick.specs.Ocb.{yaw-high, yaw-low}
use borrow.Author.Rules.{rules}
use Rattle.quick.proofs.for_ocb.yaw_fits.Goals as goal

pub returns-then-yaw-le59 : goal.returns-then-yaw-le59
returns-then-yaw-le59 c = search (yaw-low, rules)

pub returns : goal.returns
returns c = search (yaw-high, rules)
