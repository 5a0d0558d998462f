-- One lemma for each test that comes out one way (Returns.antt).
use borrow.Author.Rules.{rules}
use Rattle.prepare.proofs.Returns.{room-tray, room-live, room-run, room-log}
use Rattle.prepare.proofs.lacks_room.Goals as goal

pub returns-then-bytes-lt-LONGEST_FRAME : goal.returns-then-bytes-lt-LONGEST_FRAME
returns-then-bytes-lt-LONGEST_FRAME c = search (room-tray, rules)

pub returns-then-live-lt-BOOK_BYTES : goal.returns-then-live-lt-BOOK_BYTES
returns-then-live-lt-BOOK_BYTES c = search (room-live, rules)

pub returns-then-run-lt-BOOK_BYTES : goal.returns-then-run-lt-BOOK_BYTES
returns-then-run-lt-BOOK_BYTES c = search (room-run, rules)

pub returns : goal.returns
returns c = search (room-log, rules)
