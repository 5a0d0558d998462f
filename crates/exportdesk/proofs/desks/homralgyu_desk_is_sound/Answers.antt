-- A slice is too short, or what the call below answers.
use Rattle.exportdesk.proofs.Telling.{sound-no-desk, sound-no-live, sound-no-run, sound-is, sound-not}
use borrow.Author.Rules.{rules}
use Rattle.exportdesk.proofs.desks.homralgyu_desk_is_sound.Goals as goal

pub returns-then-desk-lt-DESK : goal.returns-then-desk-lt-DESK
returns-then-desk-lt-DESK c = search (sound-no-desk, rules)

pub returns-then-live-lt-BOOK_BYTES : goal.returns-then-live-lt-BOOK_BYTES
returns-then-live-lt-BOOK_BYTES c = search (sound-no-live, rules)

pub returns-then-run-lt-BOOK_BYTES : goal.returns-then-run-lt-BOOK_BYTES
returns-then-run-lt-BOOK_BYTES c = search (sound-no-run, rules)

pub returns-then-is_sound : goal.returns-then-is_sound
returns-then-is_sound c = search (sound-is, rules)

pub returns : goal.returns
returns c = search (sound-not, rules)
