-- Document 01, "Codes", first and third paragraph: what the code of a field means, in metres, degrees, TECU or whole numbers. Definitions to believe.
-- Width, range, step and unit are those of the field's line in crate fields. Document 000, section 6.3, says "encoded * Res + Rng_min"; document 01 says which
-- float that is: one division. The model offsets of 2.3 m and 0.252 m are not added.
use Rattle.std.specs.Prelude.{[], ◌∷◌, Bool, true, false, ℕ, ◌+◌, ◌*◌, leb, eqb, ℤ, pos, ◌-ℤ◌, get_or, Float, Ok, Err}
use Rattle.std.specs.Float.{binary64}
use Rattle.std.specs.Float.Ieee.{div, of_int}
use Rattle.answer.specs.Number.{number_of}
use Rattle.fields.specs.Fields.{Meaning, metres, degrees, tecu, coefficient, count, residual_metres, residual_tecu, yaw, Steps, about, one_more_of, sixfold, spacings, Means, nothing, counts, line_of}
use Rattle.answer.specs.declared.Refusal.TheVariants.{Field}
use Rattle.values.specs.declared.Residual.TheVariants as Residual
use Rattle.values.specs.declared.Yaw.TheVariants as Yaw
use Rattle.values.specs.Results.{ResidualAnswer}
use Rattle.values.specs.Results.{YawAnswer}
use Rattle.values.specs.Results.{CountAnswer}
use Rattle.values.specs.Results.{OrbitAnswer}
use Rattle.values.specs.declared.Value.{Value}
use Rattle.values.specs.declared.Value.TheVariants.{Metres, Degrees, Tecu, Coefficient, Count, OfResidual, OfYaw, Refused}

-- SF077, SF078: "0 : 2.5 deg 1 : 5.0 deg 2 : 10.0 deg 3 : 15.0 deg", in halves of a degree
abbrev pub half_degrees : ℕ → ℕ
half_degrees code = get_or (5 ∷ 10 ∷ 20 ∷ 30 ∷ []) code 0

-- "the signed step count"
abbrev pub step_count : Steps → ℕ → ℤ
step_count (about middle) code = pos code -ℤ pos middle
step_count one_more_of code = pos (code + 1)
step_count sixfold code = pos (6 * code)
step_count spacings code = pos (half_degrees code)

-- "divided once by the steps per unit": the rounded quotient of the two numbers' floats, each of which is exact (`rounded-once` of Laws.antt)
unfoldable pub quotient : ℤ → ℕ → Float
quotient steps per_unit = div binary64 (of_int binary64 steps) (of_int binary64 (pos per_unit))

-- a code that the field takes, at its steps and steps per unit
abbrev pub meant : Meaning → Steps → ℕ → ℕ → Value
meant metres steps per_unit code = Metres (quotient (step_count steps code) per_unit)
meant degrees steps per_unit code = Degrees (quotient (step_count steps code) per_unit)
meant tecu steps per_unit code = Tecu (quotient (step_count steps code) per_unit)
meant coefficient steps per_unit code = Coefficient (quotient (step_count steps code) per_unit)
meant count steps per_unit code = Count (code + 1)
meant residual_metres steps per_unit code = OfResidual (Residual.Metres (quotient (step_count steps code) per_unit))
meant residual_tecu steps per_unit code = OfResidual (Residual.Tecu (quotient (step_count steps code) per_unit))
meant yaw steps per_unit code = OfYaw (Yaw.Degrees (quotient (step_count steps code) per_unit))

-- the code that a field takes besides its range: "invalid" for a residual and for the yaw; no other field has one
abbrev pub meant_by_invalid : Meaning → Value
meant_by_invalid metres = Refused Field
meant_by_invalid degrees = Refused Field
meant_by_invalid tecu = Refused Field
meant_by_invalid coefficient = Refused Field
meant_by_invalid count = Refused Field
meant_by_invalid residual_metres = OfResidual Residual.Invalid
meant_by_invalid residual_tecu = OfResidual Residual.Invalid
meant_by_invalid yaw = OfYaw Yaw.Invalid

abbrev pub pick : Bool → Value → Value → Value
pick true value rest = value
pick false value rest = rest

-- a code the field does not take is FIELD (DECISIONS); so is every code of a field without a value
abbrev pub value_by : (most invalid : ℕ) → Means → ℕ → Value
value_by most invalid nothing code = Refused Field
value_by most invalid (counts steps per_unit meaning) code =
    pick (leb code most) (meant meaning steps per_unit code)
    (pick (eqb code invalid) (meant_by_invalid meaning)
    (Refused Field))

unfoldable pub value_of : ℕ → ℕ → Value
value_of sf code = value_by (line_of sf).most (line_of sf).invalid (line_of sf).means code

-- "A residual is either invalid or a float in its unit"; FIELD where the field is no residual or does not take the code
abbrev pub residual_by : Value → ResidualAnswer
residual_by (OfResidual r) = Ok r
residual_by (Metres x) = Err Field
residual_by (Degrees x) = Err Field
residual_by (Tecu x) = Err Field
residual_by (Coefficient x) = Err Field
residual_by (Count n) = Err Field
residual_by (OfYaw y) = Err Field
residual_by (Refused refusal) = Err Field

unfoldable pub residual_of : ℕ → ℕ → ResidualAnswer
residual_of sf code = residual_by (value_of sf code)

-- a satellite's yaw, where it is there
abbrev pub yaw_by : Value → YawAnswer
yaw_by (OfYaw y) = Ok y
yaw_by (Metres x) = Err Field
yaw_by (Degrees x) = Err Field
yaw_by (Tecu x) = Err Field
yaw_by (Coefficient x) = Err Field
yaw_by (Count n) = Err Field
yaw_by (OfResidual r) = Err Field
yaw_by (Refused refusal) = Err Field

unfoldable pub yaw_of : ℕ → YawAnswer
yaw_of code = yaw_by (value_of 21 code)

-- "SF030, 034 to 037, 071, 075, 076 mean code plus one (036 and 037 in tenths of a degree)": those that count
abbrev pub count_by : Value → CountAnswer
count_by (Count n) = Ok n
count_by (Metres x) = Err Field
count_by (Degrees x) = Err Field
count_by (Tecu x) = Err Field
count_by (Coefficient x) = Err Field
count_by (OfResidual r) = Err Field
count_by (OfYaw y) = Err Field
count_by (Refused refusal) = Err Field

unfoldable pub count_of : ℕ → ℕ → CountAnswer
count_of sf code = count_by (value_of sf code)

-- "The three orbit corrections are handed out together in metres": SF020 three times; FIELD if one of the codes is outside
abbrev pub in_metres : Value → (Float → OrbitAnswer) → OrbitAnswer
in_metres (Metres x) next = next x
in_metres (Degrees x) next = Err Field
in_metres (Tecu x) next = Err Field
in_metres (Coefficient x) next = Err Field
in_metres (Count n) next = Err Field
in_metres (OfResidual r) next = Err Field
in_metres (OfYaw y) next = Err Field
in_metres (Refused refusal) next = Err Field

abbrev pub orbit_with : Float → Float → ℕ → OrbitAnswer
orbit_with radial along cross = in_metres (value_of 20 cross) (λ x. Ok (record { radial = radial; along_track = along; cross_track = x }))

abbrev pub orbit_from : Float → ℕ → ℕ → OrbitAnswer
orbit_from radial along cross = in_metres (value_of 20 along) (λ x. orbit_with radial x cross)

unfoldable pub orbit_of : ℕ → ℕ → ℕ → OrbitAnswer
orbit_of radial along cross = in_metres (value_of 20 radial) (λ x. orbit_from x along cross)

-- the answers' numbers in document 01
abbrev pub number_of_value : Value → ℕ
number_of_value (Metres x) = 0
number_of_value (Degrees x) = 0
number_of_value (Tecu x) = 0
number_of_value (Coefficient x) = 0
number_of_value (Count n) = 0
number_of_value (OfResidual r) = 0
number_of_value (OfYaw y) = 0
number_of_value (Refused refusal) = number_of refusal
