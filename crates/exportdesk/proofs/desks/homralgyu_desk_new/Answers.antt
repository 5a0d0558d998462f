-- The slice is too short, or what was told is what the call below answers.
use Rattle.exportdesk.specs.Desks.{told_new}
use Rattle.export.proofs.Laws.{answered-short, lent-short, answered-by, lent_by}
use borrow.Author.Rules.{rules}
use Rattle.exportdesk.proofs.desks.homralgyu_desk_new.Goals as goal

pub returns-then-desk-lt-DESK-clause-value : goal.returns-then-desk-lt-DESK-clause-value
returns-then-desk-lt-DESK-clause-value c = search (answered-short, rules)

pub returns-then-desk-lt-DESK-clause-desk_after : goal.returns-then-desk-lt-DESK-clause-desk_after
returns-then-desk-lt-DESK-clause-desk_after c = search (lent-short, rules)

pub returns-clause-value : goal.returns-clause-value
returns-clause-value c = search (answered-by told_new, rules)

pub returns-clause-desk_after : goal.returns-clause-desk_after
returns-clause-desk_after c = search (lent_by told_new, rules)
