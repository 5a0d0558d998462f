-- The slice is too short, or what was told is what the call below answers.
use Rattle.export.specs.Frames.{told_checked}
use Rattle.export.proofs.Laws.{answered-short, lent-short, answered-by, lent_by}
use borrow.Author.Rules.{rules}
use Rattle.export.proofs.frames.homralgyu_frame_check.Goals as goal

pub returns-then-header-lt-HEADER-clause-value : goal.returns-then-header-lt-HEADER-clause-value
returns-then-header-lt-HEADER-clause-value c = search (answered-short, rules)

pub returns-then-header-lt-HEADER-clause-header_after : goal.returns-then-header-lt-HEADER-clause-header_after
returns-then-header-lt-HEADER-clause-header_after c = search (lent-short, rules)

pub returns-clause-value : goal.returns-clause-value
returns-clause-value c = search (answered-by told_checked, rules)

pub returns-clause-header_after : goal.returns-clause-header_after
returns-clause-header_after c = search (lent_by told_checked, rules)
