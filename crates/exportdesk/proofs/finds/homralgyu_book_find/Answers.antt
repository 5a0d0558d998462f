-- A slice is too short, or the bytes are those that are found.
use Rattle.export.specs.Numbers.{laid}
use Rattle.exportdesk.specs.Finds.{count_of}
use Prim.Native.Nat.{ℕ}
use Rattle.export.proofs.Laws.{is-left}
use Rattle.exportdesk.proofs.Laws.{first_short, second_short, both-are}
use borrow.Author.Rules.{rules}
use Rattle.exportdesk.proofs.finds.homralgyu_book_find.Goals as goal

pub returns-then-area-lt-AREA-clause-value : goal.returns-then-area-lt-AREA-clause-value
returns-then-area-lt-AREA-clause-value c = search (first_short, rules)

pub returns-then-area-lt-AREA-clause-area_after : goal.returns-then-area-lt-AREA-clause-area_after
returns-then-area-lt-AREA-clause-area_after c = search (first_short, rules)

pub returns-then-area-lt-AREA-clause-found_after : goal.returns-then-area-lt-AREA-clause-found_after
returns-then-area-lt-AREA-clause-found_after c = search (first_short, rules)

pub returns-then-found-lt1-clause-value : goal.returns-then-found-lt1-clause-value
returns-then-found-lt1-clause-value c = search (second_short, rules)

pub returns-then-found-lt1-clause-area_after : goal.returns-then-found-lt1-clause-area_after
returns-then-found-lt1-clause-area_after c = search (second_short, rules)

pub returns-then-found-lt1-clause-found_after : goal.returns-then-found-lt1-clause-found_after
returns-then-found-lt1-clause-found_after c = search (second_short, rules)

pub returns-clause-value : goal.returns-clause-value
returns-clause-value c = search (both-are, rules)

pub returns-clause-area_after : goal.returns-clause-area_after
returns-clause-area_after c = search (both-are, rules)

pub returns-clause-found_after : goal.returns-clause-found_after
returns-clause-found_after c = search (both-are, is-left (λ (n : ℕ). laid (count_of n)), rules)
