-- The answers of this crate, as its source names them.
use Rattle.std.specs.Prelude.{ℕ, Result}
use Rattle.answer.specs.declared.Refusal.{Refusal}
use Rattle.values.specs.declared.Orbit.{Orbit}
use Rattle.values.specs.declared.Residual.{Residual}
use Rattle.values.specs.declared.Yaw.{Yaw}

abbrev pub OrbitAnswer : Type 0
OrbitAnswer = Result Orbit Refusal

abbrev pub ResidualAnswer : Type 0
ResidualAnswer = Result Residual Refusal

abbrev pub YawAnswer : Type 0
YawAnswer = Result Yaw Refusal

abbrev pub CountAnswer : Type 0
CountAnswer = Result ℕ Refusal
