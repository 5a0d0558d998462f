-- Definitions to believe: a book as three numbers, and the answers of `book` and `kept` in numbers.
use Rattle.std.specs.Prelude.{cond, List, [], ◌∷◌, ℕ, ◌+◌, ◌-◌, eqb, get_or, Ok, Err}
use Rattle.book.specs.declared.Book.{Book}
use Rattle.book.specs.Book.{no_book, book_of as book_with}
use Rattle.book.specs.Results.{Taken}
use Rattle.book.specs.Take.{taken_of, bytes_after}
use Rattle.kept.specs.Results.{Written}
use Rattle.kept.specs.Results.{ReadKept}
use Rattle.kept.specs.Kept.{written, out_after, read_kept, answer_of, left_by}
use Rattle.export.specs.Numbers.{Told, refused, refused_at, at_most}

abbrev pub book_room : ℕ
book_room = 3

-- AIOU, SIOU + 1 or 0 where it is unknown, and count. Numbers that a flag makes meaningless, as AIOU and SIOU of an empty book, do not count (DECISIONS). An AIOU over 15 is not sound,
-- whatever it is, nor is a SIOU + 1 over 512.
unfoldable pub book_in : List ℕ → Book
book_in s =
    cond (eqb (get_or s 2 0) 0)
    no_book
    (book_with (at_most 16 (get_or s 0 0) + 1) (at_most 513 (get_or s 1 0)) (get_or s 2 0))

-- AIOU and SIOU of an empty book are told as 0
unfoldable pub book_of : Book → List ℕ
book_of book = (book.aiou_plus_one - 1) ∷ book.siou_plus_one ∷ book.count ∷ []

-- a GAD taken
unfoldable pub take_of : (book bytes payload : List ℕ) → Taken
take_of book bytes payload = taken_of (book_in book) bytes payload

unfoldable pub take_leaves : (book bytes payload : List ℕ) → List ℕ
take_leaves book bytes payload = bytes_after (book_in book) bytes payload

unfoldable pub told_taken : Taken → Told
told_taken (Ok book) = record { number = 0; numbers = book_of book }
told_taken (Err fault) = refused_at fault

-- the kept book written
unfoldable pub kept_of : (book bytes out : List ℕ) → Written
kept_of book bytes out = written (book_in book) bytes out

unfoldable pub kept_leaves : (book bytes out : List ℕ) → List ℕ
kept_leaves book bytes out = out_after (book_in book) bytes out

unfoldable pub told_kept : Written → Told
told_kept (Ok n) = record { number = 0; numbers = n ∷ [] }
told_kept (Err refusal) = refused refusal

-- the kept book read
unfoldable pub read_of : (kept bytes : List ℕ) → ReadKept
read_of kept bytes = answer_of (read_kept kept bytes)

unfoldable pub read_leaves : (kept bytes : List ℕ) → List ℕ
read_leaves kept bytes = left_by (read_kept kept bytes) bytes

unfoldable pub told_read : ReadKept → Told
told_read (Ok book) = record { number = 0; numbers = book_of book }
told_read (Err refusal) = refused refusal
