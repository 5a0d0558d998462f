-- The answers of this crate, as its source names them.
use Rattle.std.specs.Prelude.{ℕ, Result, Option}
use Rattle.answer.specs.declared.Refusal.{Refusal}
use Rattle.frame.specs.declared.Sealing.{Sealing}

abbrev pub Written : Type 0
Written = Result ℕ Refusal

abbrev pub Seal : Type 0
Seal = Option Sealing
