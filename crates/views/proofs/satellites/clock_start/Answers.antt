-- `clock_start`: by SF014 and SF008.
use Rattle.views.proofs.Ocbs.{start-yaw, start-orbit, start_none}
use borrow.Author.Rules.{rules}
use Rattle.views.proofs.satellites.clock_start.Goals as goal

pub returns-then-yaw-eq1 : goal.returns-then-yaw-eq1
returns-then-yaw-eq1 c = search (start-yaw, rules)

pub returns-then-orbit-eq1 : goal.returns-then-orbit-eq1
returns-then-orbit-eq1 c = search (start-orbit, rules)

pub returns : goal.returns
returns c = search (start_none, rules)
