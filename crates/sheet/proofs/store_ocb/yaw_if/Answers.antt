-- SF021, where SF008 is set.
use Rattle.sheet.proofs.StoringOcb.{yaw-there, yaw-absent}
use borrow.Author.Rules.{rules}
use Rattle.sheet.proofs.store_ocb.yaw_if.Goals as goal

pub returns-then-yaw-eq1 : goal.returns-then-yaw-eq1
returns-then-yaw-eq1 c = search (yaw-there, rules)

pub returns : goal.returns
returns c = search (yaw-absent, rules)
