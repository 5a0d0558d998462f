-- The slice is too short, or what was told is what the call below answers.
use Rattle.export.specs.Payloads.{told_written}
use Rattle.export.proofs.Laws.{answered-short, lent-short, answered-by, lent_by}
use borrow.Author.Rules.{rules}
use Rattle.export.proofs.payloads.homralgyu_sheet_judge.Goals as goal

pub returns-then-counts-lt-COUNTS-clause-value : goal.returns-then-counts-lt-COUNTS-clause-value
returns-then-counts-lt-COUNTS-clause-value c = search (answered-short, rules)

pub returns-then-counts-lt-COUNTS-clause-counts_after : goal.returns-then-counts-lt-COUNTS-clause-counts_after
returns-then-counts-lt-COUNTS-clause-counts_after c = search (lent-short, rules)

pub returns-clause-value : goal.returns-clause-value
returns-clause-value c = search (answered-by told_written, rules)

pub returns-clause-counts_after : goal.returns-clause-counts_after
returns-clause-counts_after c = search (lent_by told_written, rules)
