-- The answers of this crate, as its source names them.
use Rattle.std.specs.Prelude.{Result}
use Rattle.answer.specs.declared.Fault.{Fault}
use Rattle.quick.specs.declared.Extent.{Extent}
use Rattle.sheet.specs.declared.Written.{Written}
use Rattle.sheet.specs.declared.row.Reached.{Reached}

abbrev pub ReadAnswer : Type 0
ReadAnswer = Result Extent Fault

abbrev pub WriteAnswer : Type 0
WriteAnswer = Result Written Fault

abbrev pub Pass : Type 0
Pass = Result Extent Fault

abbrev pub Ran : Type 0
Ran = Result Reached Fault
