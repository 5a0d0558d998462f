-- `satellite_view`: out of use, or each block.
use Rattle.views.proofs.Ocbs.{satellite-unused, satellite-used}
use borrow.Author.Rules.{rules}
use Rattle.views.proofs.satellites.satellite_view.Goals as goal

pub returns-then-entry-eq1 : goal.returns-then-entry-eq1
returns-then-entry-eq1 c = search (satellite-unused, rules)

pub returns : goal.returns
returns c = search (satellite-used, rules)
