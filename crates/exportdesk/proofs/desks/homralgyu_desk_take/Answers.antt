-- A slice is too short, or what was told is what the call below answers.
use Rattle.desk.specs.declared.Taken.{Taken}
use Rattle.export.specs.Numbers.{laid}
use Rattle.exportdesk.specs.Desks.{told_taken, log_told}
use Rattle.export.proofs.Laws.{is-told, is-left}
use Rattle.exportdesk.proofs.Laws.{first_short, second_short, both-are}
use borrow.Author.Rules.{rules}
use Rattle.exportdesk.proofs.desks.homralgyu_desk_take.Goals as goal

pub returns-then-desk-lt-DESK-clause-value : goal.returns-then-desk-lt-DESK-clause-value
returns-then-desk-lt-DESK-clause-value c = search (first_short, rules)

pub returns-then-desk-lt-DESK-clause-desk_after : goal.returns-then-desk-lt-DESK-clause-desk_after
returns-then-desk-lt-DESK-clause-desk_after c = search (first_short, rules)

pub returns-then-desk-lt-DESK-clause-live_after : goal.returns-then-desk-lt-DESK-clause-live_after
returns-then-desk-lt-DESK-clause-live_after c = search (first_short, rules)

pub returns-then-desk-lt-DESK-clause-run_after : goal.returns-then-desk-lt-DESK-clause-run_after
returns-then-desk-lt-DESK-clause-run_after c = search (first_short, rules)

pub returns-then-desk-lt-DESK-clause-log_after : goal.returns-then-desk-lt-DESK-clause-log_after
returns-then-desk-lt-DESK-clause-log_after c = search (first_short, rules)

pub returns-then-desk-lt-DESK-clause-written_after : goal.returns-then-desk-lt-DESK-clause-written_after
returns-then-desk-lt-DESK-clause-written_after c = search (first_short, rules)

pub returns-then-written-lt1-clause-value : goal.returns-then-written-lt1-clause-value
returns-then-written-lt1-clause-value c = search (second_short, rules)

pub returns-then-written-lt1-clause-desk_after : goal.returns-then-written-lt1-clause-desk_after
returns-then-written-lt1-clause-desk_after c = search (second_short, rules)

pub returns-then-written-lt1-clause-live_after : goal.returns-then-written-lt1-clause-live_after
returns-then-written-lt1-clause-live_after c = search (second_short, rules)

pub returns-then-written-lt1-clause-run_after : goal.returns-then-written-lt1-clause-run_after
returns-then-written-lt1-clause-run_after c = search (second_short, rules)

pub returns-then-written-lt1-clause-log_after : goal.returns-then-written-lt1-clause-log_after
returns-then-written-lt1-clause-log_after c = search (second_short, rules)

pub returns-then-written-lt1-clause-written_after : goal.returns-then-written-lt1-clause-written_after
returns-then-written-lt1-clause-written_after c = search (second_short, rules)

pub returns-clause-value : goal.returns-clause-value
returns-clause-value c = search (both-are, is-told (λ (v : Taken). (told_taken v).number), rules)

pub returns-clause-desk_after : goal.returns-clause-desk_after
returns-clause-desk_after c = search (both-are, is-left (λ (v : Taken). laid (told_taken v).numbers), rules)

pub returns-clause-live_after : goal.returns-clause-live_after
returns-clause-live_after c = search (both-are, rules)

pub returns-clause-run_after : goal.returns-clause-run_after
returns-clause-run_after c = search (both-are, rules)

pub returns-clause-log_after : goal.returns-clause-log_after
returns-clause-log_after c = search (both-are, rules)

pub returns-clause-written_after : goal.returns-clause-written_after
returns-clause-written_after c = search (both-are, is-left (λ (v : Taken). laid (log_told v.said)), rules)
