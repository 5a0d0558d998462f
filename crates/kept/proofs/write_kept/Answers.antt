-- `write_kept`: the tests are those of `written`, in its order; then the areas are laid behind the head (Putting.antt).
use Rattle.kept.proofs.Putting.{write-no-book, left-no-book, write-no-room, left-no-room, write-state, left-state, book-head, book-room, book-image, book-fits, book-count, write-book, left-book}
use borrow.Author.Rules.{rules}
use Rattle.kept.proofs.write_kept.Goals as goal

pub returns-then-bytes-lt-BOOK_BYTES : goal.returns-then-bytes-lt-BOOK_BYTES
returns-then-bytes-lt-BOOK_BYTES c = search (write-no-book, left-no-book, rules)

pub returns-then-out-lt-KEPT_ROOM : goal.returns-then-out-lt-KEPT_ROOM
returns-then-out-lt-KEPT_ROOM c = search (write-no-room, left-no-room, rules)

pub returns-then-not-is_sound : goal.returns-then-not-is_sound
returns-then-not-is_sound c = search (write-state, left-state, rules)

pub put_head-areas-requires : goal.put_head-areas-requires
put_head-areas-requires c = (search (book-head, rules), search rules)

pub put_areas-requires : goal.put_areas-requires
put_areas-requires c =
    (search (book-image, rules), search (book-fits, rules), search (book-count, rules), search (book-room, rules))

pub returns-clause-value : goal.returns-clause-value
returns-clause-value c = search (write-book, rules)

pub returns-clause-out_after : goal.returns-clause-out_after
returns-clause-out_after c = search (left-book, rules)
