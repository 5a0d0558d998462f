-- Definitions to believe: a code of a sheet as a number, by the value of its field (crate values). The last case of each is not met on a sheet that the writer
-- accepts: there every code has its value (AreasMet.antt, SatellitesMet.antt).
use Rattle.std.specs.Prelude.{ℕ, pos, Float, Ok, Err}
use Rattle.std.specs.Float.{binary64}
use Rattle.std.specs.Float.Ieee.{of_int}
use Rattle.values.specs.Values.{value_of, count_of, yaw_of}
use Rattle.values.specs.declared.Value.{Value}
use Rattle.values.specs.declared.Value.TheVariants.{Metres, Degrees, Tecu, Coefficient, Count, OfResidual, OfYaw, Refused}
use Rattle.values.specs.Results.{CountAnswer}
use Rattle.values.specs.declared.Yaw.{Yaw}
use Rattle.values.specs.declared.Yaw.TheVariants as yaw
use Rattle.values.specs.Results.{YawAnswer}

-- metres, degrees, TECU, or a coefficient
abbrev pub float_of : Value → Float
float_of (Metres x) = x
float_of (Degrees x) = x
float_of (Tecu x) = x
float_of (Coefficient x) = x
float_of (Count n) = of_int binary64 (pos 0)
float_of (OfResidual r) = of_int binary64 (pos 0)
float_of (OfYaw y) = of_int binary64 (pos 0)
float_of (Refused why) = of_int binary64 (pos 0)

unfoldable pub in_unit : (sf code : ℕ) → Float
in_unit sf code = float_of (value_of sf code)

-- a count, code plus one
abbrev pub number_in : CountAnswer → ℕ
number_in (Ok n) = n
number_in (Err why) = 0

unfoldable pub count_in : (sf code : ℕ) → ℕ
count_in sf code = number_in (count_of sf code)

-- the yaw, SF021: invalid or an angle
abbrev pub yaw_said : YawAnswer → Yaw
yaw_said (Ok y) = y
yaw_said (Err why) = yaw.Invalid

unfoldable pub yaw_in : ℕ → Yaw
yaw_in code = yaw_said (yaw_of code)
