-- The slice is too short, or what was told is what the call below answers.
use Rattle.exportentries.specs.Entries.{told_satellite}
use Rattle.export.proofs.Laws.{answered-short, lent-short, answered-by, lent_by}
use borrow.Author.Rules.{rules}
use Rattle.exportentries.proofs.homralgyu_entry_satellite.Goals as goal

pub returns-then-satellite-lt-SATELLITE : goal.returns-then-satellite-lt-SATELLITE
returns-then-satellite-lt-SATELLITE c = search (answered-short, lent-short, rules)

pub returns : goal.returns
returns c = search (answered-by told_satellite, lent_by told_satellite, rules)
