-- `read_kept`: ROOM, the head, and then the areas.
use Rattle.std.proofs.Common.{◌≡◌, Ok, Err}
use Rattle.std.proofs.lemmas.Result.{err_from_is_err_and}
use Rattle.kept.proofs.Walking.{kept-room, left-room, kept-refused, left-head, kept_at, kept-count, kept_on, left-on}
use borrow.Author.Rules.{rules}
use Rattle.kept.proofs.read_kept.Goals as goal

pub returns-then-bytes-lt-BOOK_BYTES : goal.returns-then-bytes-lt-BOOK_BYTES
returns-then-bytes-lt-BOOK_BYTES c = search (kept-room, left-room, rules)

pub returns-in_err-book : goal.returns-in_err-book
returns-in_err-book c =
    let p = err_from_is_err_and c.from_residual.result c.from_residual.ensures.1 in
    let w : c.read_head.result ≡ Err c.in_err-book.field-0.0 = c.in_err-book.was in
    rw (p.1, p.2) (search (kept-refused, left-head, rules))

pub read_areas-requires : goal.read_areas-requires
read_areas-requires c = let w : c.read_head.result ≡ Ok (c.in_ok-book.book, c.in_ok-book.at) = c.in_ok-book.was in (search (kept_at, rules), search (kept-count, rules), search rules)

pub returns : goal.returns
returns c = let w : c.read_head.result ≡ Ok (c.in_ok-book.book, c.in_ok-book.at) = c.in_ok-book.was in search (kept_on, left-on, rules)
