-- Definitions to believe: the data fields of the twelve payloads, a line a field (document 000, section 6.4; document 01, "Codes"; document 02, request 6): its number, its bits, the
-- codes that it takes, and what they mean. Every layout, row, value, log entry and word of the run log takes a field's facts from here, or is proved to
-- agree with it (`limits` of crate entries, the corners of crate words).
use Rattle.std.specs.Prelude.{Bool, true, false, List, [], ◌∷◌, ℕ, ◌-◌, ◌^◌, eqb}
use Rattle.answer.specs.declared.Refusal.TheVariants as refusal
use Rattle.layout.specs.declared.Field.{Field}

-- what a field's value is; a coefficient per degree is a plain number
pub data Meaning : Type 0 where
  metres degrees tecu coefficient count residual_metres residual_tecu yaw : Meaning

-- how a code counts steps: from a middle code that means zero; code plus one; six times the code; or SF077's and SF078's list, in halves of a degree
pub data Steps : Type 0 where
  about : (middle : ℕ) → Steps
  one_more_of sixfold spacings : Steps

-- a code that has no value (a flag, a size, a number of its own), or steps and how many of them a unit has
pub data Means : Type 0 where
  nothing : Means
  counts : (steps : Steps) (per_unit : ℕ) (meaning : Meaning) → Means

-- It takes 0 to `most`, and the one code `invalid`, which is `most` where no code means "invalid".
pub record Line : Type 0 where
  pub number : ℕ
  pub width : ℕ
  pub most : ℕ
  pub invalid : ℕ
  pub means : Means

-- ---- kinds of lines: SF, bits, (the highest code, the middle code,) steps per unit, meaning

-- "All else takes its full width."
abbrev pub full : (number width : ℕ) → Steps → (per_unit : ℕ) → Meaning → Line
full number n steps per_unit meaning = record { number = number; width = n; most = 2 ^ n - 1; invalid = 2 ^ n - 1; means = counts steps per_unit meaning }

abbrev pub plain : (number width : ℕ) → Line
plain number n = record { number = number; width = n; most = 2 ^ n - 1; invalid = 2 ^ n - 1; means = nothing }

-- "A symmetric field of n bits takes 0 to 2^n - 2; its middle code means zero. The top code is .. FIELD for .."
abbrev pub symmetric : (number width per_unit : ℕ) → Meaning → Line
symmetric number n per_unit meaning =
    record { number = number; width = n; most = 2 ^ n - 2; invalid = 2 ^ n - 2; means = counts (about (2 ^ (n - 1) - 1)) per_unit meaning }

-- "The top code is "invalid" for .."
abbrev pub or_invalid : (number width per_unit : ℕ) → Meaning → Line
or_invalid number n per_unit meaning =
    record { number = number; width = n; most = 2 ^ n - 2; invalid = 2 ^ n - 1; means = counts (about (2 ^ (n - 1) - 1)) per_unit meaning }

-- "Other ranges: .. SF032 0 to 1800; SF033 0 to 3600; SF073 0 to 170; SF074 0 to 360; SF040 0 to 2; SF041 and SF054 0 to 2."
abbrev pub ranged : (number width most middle per_unit : ℕ) → Meaning → Line
ranged number n most middle per_unit meaning = record { number = number; width = n; most = most; invalid = most; means = counts (about middle) per_unit meaning }

-- SF040, SF041, SF054; and the ephemeris types: "Refuse TBD values: GPS and GLONASS 1 to 3, Galileo and QZSS 3 to 7, BeiDou 6 to 15" (document 02, request 6)
abbrev pub limited : (number width most : ℕ) → Line
limited number n most = record { number = number; width = n; most = most; invalid = most; means = nothing }

-- "SF021 0 to 59, with 63 invalid"
abbrev pub yaw_line : Line
yaw_line = record { number = 21; width = 6; most = 59; invalid = 63; means = counts sixfold 1 yaw }

-- Beside a line its name, or the range and the step that document 000 names. A mask's line is its size; the bits go by the size (`mask_size` and `bias_size` of
-- crate codes; SF079, the node mask, has no size).
unfoldable pub table : List Line
table =
    plain 5 9 ∷  -- solution issue of update (SIOU)
    plain 8 1 ∷  -- yaw present flag
    plain 9 1 ∷  -- satellite reference datum
    plain 10 1 ∷  -- end of OCB set
    plain 11 2 ∷  -- GPS satellite mask: the size; its bits go by the size, here and below
    plain 12 2 ∷  -- GLONASS satellite mask
    plain 13 1 ∷  -- do not use
    plain 14 3 ∷  -- OCB present flags
    plain 15 3 ∷  -- continuity indicator
    limited 16 2 0 ∷  -- GPS ephemeris type: 1 to 3 TBD
    limited 17 2 0 ∷  -- GLONASS ephemeris type: 1 to 3 TBD
    plain 18 8 ∷  -- GPS IODE
    plain 19 7 ∷  -- GLONASS IODE
    symmetric 20 14 500 metres ∷  -- ±16.382 m, 0.002 m
    yaw_line ∷  -- 0 to 354°, 6°, 0x3F = invalid
    plain 22 3 ∷  -- IODE continuity
    plain 23 1 ∷  -- fix flag
    plain 24 3 ∷  -- user range error
    plain 25 1 ∷  -- GPS phase bias mask: the size
    plain 26 1 ∷  -- GLONASS phase bias mask
    plain 27 1 ∷  -- GPS code bias mask
    plain 28 1 ∷  -- GLONASS code bias mask
    symmetric 29 11 50 metres ∷  -- ±20.46 m, 0.02 m
    full 30 5 one_more_of 1 count ∷  -- 1 to 32
    plain 31 8 ∷  -- area ID
    ranged 32 11 1800 900 10 degrees ∷  -- ±90.00 north degrees, 0.1 degrees
    ranged 33 12 3600 1800 10 degrees ∷  -- ±180.00 east degrees, 0.1 degrees
    full 34 3 one_more_of 1 count ∷  -- 1 to 8
    full 35 3 one_more_of 1 count ∷  -- 1 to 8
    full 36 5 one_more_of 10 degrees ∷  -- 0.1 to 3.2 degrees, 0.1 degrees
    full 37 5 one_more_of 10 degrees ∷  -- 0.1 to 3.2 degrees, 0.1 degrees
    plain 39 7 ∷  -- number of grid points present
    limited 40 2 2 ∷  -- poly/grid block present indicator
    limited 41 3 2 ∷  -- troposphere equation type
    plain 42 3 ∷  -- troposphere quality
    symmetric 43 8 250 metres ∷  -- ±0.508 m, 0.004 m
    plain 44 1 ∷  -- troposphere polynomial coefficient size indicator
    symmetric 45 7 250 metres ∷  -- ±0.252 m, 0.004 m
    symmetric 46 7 1000 coefficient ∷  -- ±0.063 m/degree, 0.001 m/degree
    symmetric 47 9 5000 coefficient ∷  -- ±0.0510 m/degree², 0.0002 m/degree²
    symmetric 48 9 250 metres ∷  -- ±1.020 m, 0.004 m
    symmetric 49 9 1000 coefficient ∷  -- ±0.255 m/degree, 0.001 m/degree
    symmetric 50 11 5000 coefficient ∷  -- ±0.2046 m/degree², 0.0002 m/degree²
    plain 51 1 ∷  -- troposphere residual field size
    or_invalid 52 6 250 residual_metres ∷  -- ±0.124 m, 0.004 m, 0x3F = invalid
    or_invalid 53 8 250 residual_metres ∷  -- ±0.508 m, 0.004 m, 0xFF = invalid
    limited 54 3 2 ∷  -- ionosphere equation type
    plain 55 4 ∷  -- ionosphere quality
    plain 56 1 ∷  -- ionosphere polynomial coefficient size indicator
    symmetric 57 12 25 tecu ∷  -- ±81.88 TECU, 0.04 TECU
    symmetric 58 12 125 coefficient ∷  -- ±16.376 TECU/degree, 0.008 TECU/degree
    symmetric 59 13 500 coefficient ∷  -- ±8.190 TECU/degree², 0.002 TECU/degree²
    symmetric 60 14 25 tecu ∷  -- ±327.64 TECU, 0.04 TECU
    symmetric 61 14 125 coefficient ∷  -- ±65.528 TECU/degree, 0.008 TECU/degree
    symmetric 62 15 500 coefficient ∷  -- ±32.766 TECU/degree², 0.002 TECU/degree²
    plain 63 2 ∷  -- ionosphere residual field size
    or_invalid 64 4 25 residual_tecu ∷  -- ±0.28 TECU, 0.04 TECU, 0xF = invalid
    or_invalid 65 7 25 residual_tecu ∷  -- ±2.52 TECU, 0.04 TECU, 0x7F = invalid
    or_invalid 66 10 25 residual_tecu ∷  -- ±20.44 TECU, 0.04 TECU, 0x3FF = invalid
    or_invalid 67 14 25 residual_tecu ∷  -- ±327.64 TECU, 0.04 TECU, 0x3FFF = invalid
    plain 68 4 ∷  -- area issue of update (AIOU)
    plain 69 1 ∷  -- reserved
    plain 70 2 ∷  -- ionosphere shell height
    full 71 2 one_more_of 1 count ∷  -- 1 to 4
    plain 72 2 ∷  -- BPAC area ID
    ranged 73 8 170 85 1 degrees ∷  -- ±85.00 north degrees, 1.0 degrees
    ranged 74 9 360 180 1 degrees ∷  -- ±180.00 east degrees, 1.0 degrees
    full 75 4 one_more_of 1 count ∷  -- 1 to 16
    full 76 4 one_more_of 1 count ∷  -- 1 to 16
    full 77 2 spacings 2 degrees ∷  -- 0 : 2.5 deg, 1 : 5.0 deg, 2 : 10.0 deg, 3 : 15.0 deg
    full 78 2 spacings 2 degrees ∷  -- 0 : 2.5 deg, 1 : 5.0 deg, 2 : 10.0 deg, 3 : 15.0 deg
    symmetric 80 12 4 tecu ∷  -- ±511.75 TECU, 0.25 TECU
    plain 81 1 ∷  -- VTEC size indicator
    or_invalid 82 7 4 residual_tecu ∷  -- ±15.75 TECU, 0.25 TECU, 0x7F = invalid
    or_invalid 83 11 4 residual_tecu ∷  -- ±255.75 TECU, 0.25 TECU, 0x7FF = invalid
    plain 93 2 ∷  -- Galileo satellite mask
    plain 94 2 ∷  -- BeiDou satellite mask
    plain 95 2 ∷  -- QZSS satellite mask
    limited 96 3 2 ∷  -- Galileo ephemeris type: 3 to 7 TBD
    limited 97 4 5 ∷  -- BeiDou ephemeris type: 6 to 15 TBD
    limited 98 3 2 ∷  -- QZSS ephemeris type: 3 to 7 TBD
    plain 99 10 ∷  -- Galileo IODnav
    plain 100 8 ∷  -- BeiDou IODE
    plain 101 8 ∷  -- QZSS IODE
    plain 102 1 ∷  -- Galileo phase bias mask
    plain 103 1 ∷  -- BeiDou phase bias mask
    plain 104 1 ∷  -- QZSS phase bias mask
    plain 105 1 ∷  -- Galileo code bias mask
    plain 106 1 ∷  -- BeiDou code bias mask
    plain 107 1 ∷  -- QZSS code bias mask
    []

-- ---- a field by its number

-- a number that has no line: a field without bits
abbrev pub no_line : Line
no_line = record { number = 0; width = 0; most = 0; invalid = 0; means = nothing }

abbrev pub or_else : Bool → Line → Line → Line
or_else true line rest = line
or_else false line rest = rest

unfoldable pub find : List Line → ℕ → Line
find [] number = no_line
find (line ∷ lines) number = or_else (eqb number line.number) line (find lines number)

unfoldable pub line_of : ℕ → Line
line_of number = find table number

-- a code that is not taken is FIELD
abbrev pub field_of : (number width most invalid : ℕ) → Field
field_of number width most invalid =
    record {
      sf = number;
      width = width;
      least = 0;
      most = most;
      extra = invalid;
      except = invalid;
      under = refusal.Field;
      over = refusal.Field;
    }

-- the field SF `number`
unfoldable pub sf : ℕ → Field
sf number = field_of number (line_of number).width (line_of number).most (line_of number).invalid
