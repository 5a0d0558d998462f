-- The answers of this crate, as its source names them.
use Rattle.std.specs.Prelude.{Result}
use Rattle.answer.specs.declared.Refusal.{Refusal}

abbrev pub Tested : Type 0
Tested = Result (Unit {0}) Refusal
