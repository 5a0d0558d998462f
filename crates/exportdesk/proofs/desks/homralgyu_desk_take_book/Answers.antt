-- A slice is too short, or what was told is what the call below answers.
use Rattle.desk.specs.declared.Taken.{Taken}
use Rattle.export.specs.Numbers.{laid}
use Rattle.exportdesk.specs.Desks.{told_book_taken}
use Rattle.export.proofs.Laws.{is-told, is-left}
use Rattle.exportdesk.proofs.Laws.{first_short, second_short, both-are}
use borrow.Author.Rules.{rules}
use Rattle.exportdesk.proofs.desks.homralgyu_desk_take_book.Goals as goal

pub returns-then-desk-lt-DESK-clause-value : goal.returns-then-desk-lt-DESK-clause-value
returns-then-desk-lt-DESK-clause-value c = search (first_short, rules)

pub returns-then-desk-lt-DESK-clause-desk_after : goal.returns-then-desk-lt-DESK-clause-desk_after
returns-then-desk-lt-DESK-clause-desk_after c = search (first_short, rules)

pub returns-then-desk-lt-DESK-clause-live_after : goal.returns-then-desk-lt-DESK-clause-live_after
returns-then-desk-lt-DESK-clause-live_after c = search (first_short, rules)

pub returns-then-book-lt-BOOK-clause-value : goal.returns-then-book-lt-BOOK-clause-value
returns-then-book-lt-BOOK-clause-value c = search (second_short, rules)

pub returns-then-book-lt-BOOK-clause-desk_after : goal.returns-then-book-lt-BOOK-clause-desk_after
returns-then-book-lt-BOOK-clause-desk_after c = search (second_short, rules)

pub returns-then-book-lt-BOOK-clause-live_after : goal.returns-then-book-lt-BOOK-clause-live_after
returns-then-book-lt-BOOK-clause-live_after c = search (second_short, rules)

pub returns-clause-value : goal.returns-clause-value
returns-clause-value c = search (both-are, is-told (λ (v : Taken). (told_book_taken v).number), rules)

pub returns-clause-desk_after : goal.returns-clause-desk_after
returns-clause-desk_after c = search (both-are, is-left (λ (v : Taken). laid (told_book_taken v).numbers), rules)

pub returns-clause-live_after : goal.returns-clause-live_after
returns-clause-live_after c = search (both-are, rules)
