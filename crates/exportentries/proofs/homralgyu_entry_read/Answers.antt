-- The slice is too short, or what was told is what the call below answers.
use Rattle.exportentries.specs.Entries.{told_entry}
use Rattle.export.proofs.Laws.{answered-short, lent-short, answered-by, lent_by}
use Rattle.exportentries.proofs.Laws.{in-read}
use borrow.Author.Rules.{rules}
use Rattle.exportentries.proofs.homralgyu_entry_read.Goals as goal

pub returns-then-entry-lt-ENTRY : goal.returns-then-entry-lt-ENTRY
returns-then-entry-lt-ENTRY c = search (answered-short, lent-short, rules)

pub tell_entry-requires : goal.tell_entry-requires
tell_entry-requires c = search (in-read, rules)

pub returns : goal.returns
returns c = search (answered-by told_entry, lent_by told_entry, rules)
