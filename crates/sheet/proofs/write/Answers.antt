-- ROOM, and then the whole writing.
use Rattle.sheet.proofs.Writing.{both, write-room, write-met}
use borrow.Author.Rules.{rules}
use Rattle.bits.proofs.Clauses.{two}
use Rattle.sheet.proofs.write.Goals as goal

pub returns-then-out-lt-LONGEST_PAYLOAD : goal.returns-then-out-lt-LONGEST_PAYLOAD
returns-then-out-lt-LONGEST_PAYLOAD c = two (λ a b. record { value = a; out_after = b }) (both _ (rw c.from.ensures (search (write-room, rules))))

pub returns : goal.returns
returns c = two (λ a b. record { value = a; out_after = b }) (both _ (search (write-met, rules)))
