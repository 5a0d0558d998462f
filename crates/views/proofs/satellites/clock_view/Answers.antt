-- `clock_view`: by SF014.
use Rattle.views.proofs.Ocbs.{clock-is, clock-none}
use borrow.Author.Rules.{rules}
use Rattle.views.proofs.satellites.clock_view.Goals as goal

pub returns-then-clock-eq1 : goal.returns-then-clock-eq1
returns-then-clock-eq1 c = search (clock-is, rules)

pub returns : goal.returns
returns c = search (clock-none, rules)
