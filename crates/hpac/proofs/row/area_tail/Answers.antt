-- Each side of the test gives what the definition picks.
use Rattle.hpac.specs.Rows.{area-none, area-some}
use borrow.Author.Rules.{rules}
use Rattle.hpac.proofs.row.area_tail.Goals as goal

pub returns-then-area-eq0 : goal.returns-then-area-eq0
returns-then-area-eq0 c = search (area-none, area-some, rules)

pub returns : goal.returns
returns c = search (area-none, area-some, rules)
