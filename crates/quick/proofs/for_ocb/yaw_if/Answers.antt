-- The tests are those of `yaw_if`, in its order.
use Rattle.quick.specs.Ocb.{yaw-in, yaw-none, yaw-out}
use borrow.Author.Rules.{rules}
use Rattle.quick.proofs.for_ocb.yaw_if.Goals as goal

pub returns-then-yaw_fits : goal.returns-then-yaw_fits
returns-then-yaw_fits c = search (yaw-in, rules)

pub returns-then-present-eq1 : goal.returns-then-present-eq1
returns-then-present-eq1 c = search (yaw-out, rules)

pub returns : goal.returns
returns c = search (yaw-none, rules)
