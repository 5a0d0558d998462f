-- ROOM, STATE, and past them the loop comes to what the definition says (Calling.antt).
use borrow.Author.Rules.{rules}
use Rattle.stream.proofs.Calling.{room-finish, room-finish-bytes, state-finish, state-finish-bytes, ready-now, stands, closed-answer, closed-bytes}
use Rattle.stream.proofs.finish.Goals as goal

pub returns-then-bytes-lt-LONGEST_FRAME : goal.returns-then-bytes-lt-LONGEST_FRAME
returns-then-bytes-lt-LONGEST_FRAME c = search (room-finish, room-finish-bytes, rules)

pub returns-then-not-is_sound : goal.returns-then-not-is_sound
returns-then-not-is_sound c = search (state-finish, state-finish-bytes, rules)

pub close-requires : goal.close-requires
close-requires c = search (stands, ready-now, rules)

pub returns : goal.returns
returns c = search (closed-answer, closed-bytes, ready-now, rules)
