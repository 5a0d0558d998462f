-- `yaw_of`: the value of SF021 is a yaw, or anything else.
use Rattle.values.proofs.Answers.{yaw-is, yaw-field}
use borrow.Author.Rules.{rules}
use Rattle.values.proofs.yaw_of.Goals as goal

pub returns-in-OfYaw : goal.returns-in-OfYaw
returns-in-OfYaw c = search (yaw-is, rules)

pub returns-in_default : goal.returns-in_default
returns-in_default c = search (yaw-field, rules)
