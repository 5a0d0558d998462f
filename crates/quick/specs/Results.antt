-- The answers of this crate, as its source names them.
use Rattle.std.specs.Prelude.{Option}
use Rattle.quick.specs.declared.Extent.{Extent}

abbrev pub Quick : Type 0
Quick = Option Extent
