-- ROOM, and then STATE of the desk (Returns.antt).
use Rattle.prepare.proofs.Returns.{failed-room, failed-state, passed}
use borrow.Author.Rules.{rules}
use Rattle.prepare.proofs.test_lent.Goals as goal

pub returns-then-lacks_room : goal.returns-then-lacks_room
returns-then-lacks_room c = search (failed-room, rules)

pub returns-then-not-is_sound : goal.returns-then-not-is_sound
returns-then-not-is_sound c = search (failed-state, rules)

pub returns : goal.returns
returns c = search (passed, rules)
