-- The answers of this crate, as its source names them.
use Rattle.std.specs.Prelude.{ℕ, Result, Option}
use Rattle.answer.specs.declared.Fault.{Fault}
use Rattle.answer.specs.declared.Refusal.{Refusal}
use Rattle.desk.specs.declared.Desk.{Desk}
use Rattle.desk.specs.declared.OpenRun.{OpenRun}

abbrev pub Run : Type 0
Run = Option OpenRun

abbrev pub Last : Type 0
Last = Option ℕ

abbrev pub NewDesk : Type 0
NewDesk = Result Desk Refusal

abbrev pub Said : Type 0
Said = Result ℕ Fault
