-- `yaw_view`: by SF014 and SF008.
use Rattle.views.proofs.Ocbs.{yaw-sent, yaw-unsent, yaw-none}
use borrow.Author.Rules.{rules}
use Rattle.views.proofs.satellites.yaw_view.Goals as goal

pub returns-then-yaw-eq1 : goal.returns-then-yaw-eq1
returns-then-yaw-eq1 c = search (yaw-sent, rules)

pub returns-then-orbit-eq1 : goal.returns-then-orbit-eq1
returns-then-orbit-eq1 c = search (yaw-unsent, rules)

pub returns : goal.returns
returns c = search (yaw-none, rules)
