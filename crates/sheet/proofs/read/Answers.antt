-- The tests are those of `reading`, in its order.
use Rattle.sheet.proofs.Reading.{both, read-room, read_length, is_known, is-good, read-unknown}
use borrow.Author.Rules.{rules}
use Rattle.bits.proofs.Clauses.{two}
use Rattle.sheet.proofs.read.Goals as goal

pub returns-then-sheet-lt-SHEET_ROOM : goal.returns-then-sheet-lt-SHEET_ROOM
returns-then-sheet-lt-SHEET_ROOM c = two (λ a b. record { value = a; sheet_after = b }) (both (rw c.from.ensures (search (read-room, rules))))

pub returns-then-bad_length : goal.returns-then-bad_length
returns-then-bad_length c = two (λ a b. record { value = a; sheet_after = b }) (both (rw c.from-then-bad_length.ensures (search (read_length, rules))))

pub read_known-requires : goal.read_known-requires
read_known-requires c = search (is_known, is-good, rules)

pub returns-in-None : goal.returns-in-None
returns-in-None c = two (λ a b. record { value = a; sheet_after = b }) (both (rw c.from-in-None.ensures (search (read-unknown, rules))))
