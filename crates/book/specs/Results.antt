-- The answers of this crate, as its source names them.
use Rattle.std.specs.Prelude.{ℕ, Result, Option}
use Rattle.answer.specs.declared.Fault.{Fault}
use Rattle.book.specs.declared.Book.{Book}

abbrev pub Found : Type 0
Found = Option ℕ

abbrev pub Judged : Type 0
Judged = Result ℕ Fault

abbrev pub Taken : Type 0
Taken = Result Book Fault
