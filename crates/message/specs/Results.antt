-- The answers of this crate, as its source names them.
use Rattle.std.specs.Prelude.{Option}
use Rattle.codes.specs.declared.Constellation.{Constellation}
use Rattle.message.specs.declared.State.{State}

abbrev pub Start : Type 0
Start = Option State

abbrev pub Subtype : Type 0
Subtype = Option Constellation
