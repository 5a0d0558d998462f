-- ROOM, STATE, and past them the loop comes to what the definition says (Calling.antt).
use borrow.Author.Rules.{rules}
use Rattle.stream.proofs.Calling.{room-call, room-call-bytes, state-call, state-call-bytes, ready-now, stands, fed-answer, fed-bytes}
use Rattle.stream.proofs.call.Goals as goal

pub returns-then-bytes-lt-LONGEST_FRAME : goal.returns-then-bytes-lt-LONGEST_FRAME
returns-then-bytes-lt-LONGEST_FRAME c = search (room-call, room-call-bytes, rules)

pub returns-then-not-is_sound : goal.returns-then-not-is_sound
returns-then-not-is_sound c = search (state-call, state-call-bytes, rules)

pub feed-requires : goal.feed-requires
feed-requires c = search (stands, ready-now, rules)

pub returns : goal.returns
returns c = search (fed-answer, fed-bytes, ready-now, rules)
