-- `write`: the tests are those of `written`, in its order; then each part is laid behind what was written before it.
use Rattle.frame.proofs.Writing.{both, write-room, write-field, write-empty, write-long, write-frame, ranged, payload-fits, check-known, check-room, check-near}
use borrow.Author.Rules.{rules}
use Rattle.bits.proofs.Clauses.{two}
use Rattle.frame.proofs.write.Goals as goal

pub returns-then-out-lt-LONGEST_FRAME : goal.returns-then-out-lt-LONGEST_FRAME
returns-then-out-lt-LONGEST_FRAME c = two (λ a b. record { value = a; out_after = b }) (both (search (write-room, rules)))

pub returns-then-not-in_range : goal.returns-then-not-in_range
returns-then-not-in_range c = two (λ a b. record { value = a; out_after = b }) (both (search (write-field, rules)))

pub returns-then-size-eq0 : goal.returns-then-size-eq0
returns-then-size-eq0 c = two (λ a b. record { value = a; out_after = b }) (both (search (write-empty, rules)))

pub returns-then-size-gt-LONGEST_PAYLOAD : goal.returns-then-size-gt-LONGEST_PAYLOAD
returns-then-size-gt-LONGEST_PAYLOAD c = two (λ a b. record { value = a; out_after = b }) (both (search (write-long, rules)))

pub put_start-requires : goal.put_start-requires
put_start-requires c = search (ranged, rules)

pub put_description-at-requires : goal.put_description-at-requires
put_description-at-requires c = search (ranged, rules)

pub put_payload-end-requires : goal.put_payload-end-requires
put_payload-end-requires c = search (payload-fits, rules)

pub put_check-requires : goal.put_check-requires
put_check-requires c = search (check-known, check-room, check-near, rules)

pub returns : goal.returns
returns c = two (λ a b. record { value = a; out_after = b }) (both (search (write-frame, rules)))
