-- The first bytes stand behind the start (`head-is`).
use Rattle.std.proofs.Common.{rules}
use Rattle.checks.proofs.Turns.{head-none, head-is}
use Rattle.checks.proofs.head.Goals as goal

pub returns-then-count-eq0 : goal.returns-then-count-eq0
returns-then-count-eq0 c = search (head-none, rules)

pub returns : goal.returns
returns c = search (head-is, rules)
