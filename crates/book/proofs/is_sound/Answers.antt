-- `is_sound`: the tests are those of `sound`, in its order.
use Rattle.book.proofs.Reading.{sound-short, sound-bare, head-fits, head_few, sound-rest}
use borrow.Author.Rules.{rules}
use Rattle.book.proofs.is_sound.Goals as goal

pub returns-then-bytes-lt-BOOK_BYTES : goal.returns-then-bytes-lt-BOOK_BYTES
returns-then-bytes-lt-BOOK_BYTES c = search (sound-short, rules)

pub returns-then-not-head_is_sound : goal.returns-then-not-head_is_sound
returns-then-not-head_is_sound c = search (sound-bare, rules)

pub areas_are_sound-requires : goal.areas_are_sound-requires
areas_are_sound-requires c = search (head-fits, head_few, rules)

pub returns : goal.returns
returns c = search (sound-rest, rules)
