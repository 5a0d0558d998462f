-- Definitions to believe: the answers of `values` in numbers and floats.
use Rattle.std.specs.Prelude.{List, [], ◌∷◌, ℕ, set, Float, Ok, Err}
use Rattle.answer.specs.Number.{number_of}
use Rattle.values.specs.declared.Residual.{Residual}
use Rattle.values.specs.declared.Residual.TheVariants as residual
use Rattle.values.specs.declared.Yaw.{Yaw}
use Rattle.values.specs.declared.Yaw.TheVariants as yaw
use Rattle.values.specs.declared.Value.{Value}
use Rattle.values.specs.declared.Value.TheVariants as value
use Rattle.values.specs.Results.{OrbitAnswer}
use Rattle.export.specs.Numbers.{Told, refused}

-- a unit and a count; a value; the three orbit corrections
abbrev pub unit_room : ℕ
unit_room = 2

abbrev pub value_room : ℕ
value_room = 1

abbrev pub orbit_room : ℕ
orbit_room = 3

-- the unit, and beside it a count or 0: 0 invalid, 1 metres, 2 degrees, 3 TECU, 4 a coefficient, 5 a count, 6 absent
unfoldable pub numbers_of_residual : Residual → List ℕ
numbers_of_residual residual.Invalid = 0 ∷ 0 ∷ []
numbers_of_residual (residual.Metres x) = 1 ∷ 0 ∷ []
numbers_of_residual (residual.Tecu x) = 3 ∷ 0 ∷ []

unfoldable pub numbers_of_yaw : Yaw → List ℕ
numbers_of_yaw yaw.Absent = 6 ∷ 0 ∷ []
numbers_of_yaw yaw.Invalid = 0 ∷ 0 ∷ []
numbers_of_yaw (yaw.Degrees x) = 2 ∷ 0 ∷ []

unfoldable pub told_value : Value → Told
told_value (value.Metres x) = record { number = 0; numbers = 1 ∷ 0 ∷ [] }
told_value (value.Degrees x) = record { number = 0; numbers = 2 ∷ 0 ∷ [] }
told_value (value.Tecu x) = record { number = 0; numbers = 3 ∷ 0 ∷ [] }
told_value (value.Coefficient x) = record { number = 0; numbers = 4 ∷ 0 ∷ [] }
told_value (value.Count n) = record { number = 0; numbers = 5 ∷ n ∷ [] }
told_value (value.OfResidual r) = record { number = 0; numbers = numbers_of_residual r }
told_value (value.OfYaw y) = record { number = 0; numbers = numbers_of_yaw y }
told_value (value.Refused refusal) = refused refusal

-- the float, where there is one, is the first of the lent floats
unfoldable pub floats_of_residual : Residual → List Float → List Float
floats_of_residual residual.Invalid l = l
floats_of_residual (residual.Metres x) l = set l 0 x
floats_of_residual (residual.Tecu x) l = set l 0 x

unfoldable pub floats_of_yaw : Yaw → List Float → List Float
floats_of_yaw yaw.Absent l = l
floats_of_yaw yaw.Invalid l = l
floats_of_yaw (yaw.Degrees x) l = set l 0 x

unfoldable pub floats_of_value : Value → List Float → List Float
floats_of_value (value.Metres x) l = set l 0 x
floats_of_value (value.Degrees x) l = set l 0 x
floats_of_value (value.Tecu x) l = set l 0 x
floats_of_value (value.Coefficient x) l = set l 0 x
floats_of_value (value.Count n) l = l
floats_of_value (value.OfResidual r) l = floats_of_residual r l
floats_of_value (value.OfYaw y) l = floats_of_yaw y l
floats_of_value (value.Refused refusal) l = l

-- the orbit corrections: radial, along-track, cross-track
unfoldable pub told_orbit : OrbitAnswer → ℕ
told_orbit (Ok at) = 0
told_orbit (Err refusal) = number_of refusal

unfoldable pub floats_of_orbit : OrbitAnswer → List Float → List Float
floats_of_orbit (Ok at) l = set (set (set l 0 at.radial) 1 at.along_track) 2 at.cross_track
floats_of_orbit (Err refusal) l = l
