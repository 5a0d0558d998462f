-- The slice is too short, or what was told is what the call below answers.
use Rattle.exportviews.specs.Areas.{told_hpac}
use Rattle.export.proofs.Laws.{answered-short, lent-short, answered-by, lent_by}
use borrow.Author.Rules.{rules}
use Rattle.exportviews.proofs.areas.homralgyu_hpac_area.Goals as goal

pub returns-then-view-lt-HPAC : goal.returns-then-view-lt-HPAC
returns-then-view-lt-HPAC c = search (answered-short, lent-short, rules)

pub returns : goal.returns
returns c = search (answered-by told_hpac, lent_by told_hpac, rules)
