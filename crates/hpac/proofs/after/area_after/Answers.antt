-- Each side of the test gives what the definition picks.
use Rattle.hpac.specs.Rows.{area-over, area-next}
use borrow.Author.Rules.{rules}
use Rattle.hpac.proofs.after.area_after.Goals as goal

pub returns-then-area-eq0 : goal.returns-then-area-eq0
returns-then-area-eq0 c = search (area-over, area-next, rules)

pub returns : goal.returns
returns c = search (area-over, area-next, rules)
