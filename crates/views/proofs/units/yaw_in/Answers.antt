-- `yaw_in`: invalid or an angle.
use Rattle.views.proofs.Entries.{yaw-is, yaw-refused}
use borrow.Author.Rules.{rules}
use Rattle.views.proofs.units.yaw_in.Goals as goal

pub returns-in-Ok : goal.returns-in-Ok
returns-in-Ok c = search (yaw-is, rules)

pub returns-in-Err : goal.returns-in-Err
returns-in-Err c = search (yaw-refused, rules)
