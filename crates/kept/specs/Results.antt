-- The answers of this crate, as its source names them.
use Rattle.std.specs.Prelude.{ℕ, Result}
use Rattle.answer.specs.declared.Refusal.{Refusal}
use Rattle.book.specs.declared.Book.{Book}

abbrev pub Written : Type 0
Written = Result ℕ Refusal

abbrev pub ReadKept : Type 0
ReadKept = Result Book Refusal

abbrev pub Head : Type 0
Head = Result (Book × ℕ) Refusal

abbrev pub Ended : Type 0
Ended = Result ℕ Refusal
