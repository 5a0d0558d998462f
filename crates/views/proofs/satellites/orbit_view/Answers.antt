-- `orbit_view`: by SF014.
use Rattle.views.proofs.Ocbs.{orbit-is, orbit-none}
use borrow.Author.Rules.{rules}
use Rattle.views.proofs.satellites.orbit_view.Goals as goal

pub returns-then-orbit-eq1 : goal.returns-then-orbit-eq1
returns-then-orbit-eq1 c = search (orbit-is, rules)

pub returns : goal.returns
returns c = search (orbit-none, rules)
