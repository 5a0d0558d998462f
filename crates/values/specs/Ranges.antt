-- The table of crate fields beside documents 000, 01 and 02: the lowest and the highest value of each field are those that its row's range names, and the fields and ranges that
-- document 01 and request 6 list are those of the table. Each is computed; they serve as checks of the table.
use Rattle.std.specs.Prelude.{◌≡◌, refl, List, [], ◌∷◌, Bool, true, false, not, ◌&&◌, ℕ, ◌*◌, ◌-◌, ◌^◌, eqb, ℤ}
use Rattle.fields.specs.Fields.{metres, degrees, tecu, coefficient, count, residual_metres, residual_tecu, yaw, about, one_more_of, sixfold, spacings, Means, nothing, counts, Line, table}
use Rattle.values.specs.Values.{step_count}
use Rattle.values.specs.Laws.{negative, steps}

-- "±16.382 m" of SF020 is `plus_minus 20 16382 1000`; "0.1 to 3.2 degrees" of SF036 is `from_to 36 1 32 10`
pub data Range : Type 0 where
  plus_minus : (sf digits over : ℕ) → Range
  from_to : (sf least most over : ℕ) → Range

unfoldable pub ranges : List Range
ranges =
    plus_minus 20 16382 1000 ∷
    from_to 21 0 354 1 ∷
    plus_minus 29 2046 100 ∷
    from_to 30 1 32 1 ∷
    plus_minus 32 9000 100 ∷
    plus_minus 33 18000 100 ∷
    from_to 34 1 8 1 ∷
    from_to 35 1 8 1 ∷
    from_to 36 1 32 10 ∷
    from_to 37 1 32 10 ∷
    plus_minus 43 508 1000 ∷
    plus_minus 45 252 1000 ∷
    plus_minus 46 63 1000 ∷
    plus_minus 47 510 10000 ∷
    plus_minus 48 1020 1000 ∷
    plus_minus 49 255 1000 ∷
    plus_minus 50 2046 10000 ∷
    plus_minus 52 124 1000 ∷
    plus_minus 53 508 1000 ∷
    plus_minus 57 8188 100 ∷
    plus_minus 58 16376 1000 ∷
    plus_minus 59 8190 1000 ∷
    plus_minus 60 32764 100 ∷
    plus_minus 61 65528 1000 ∷
    plus_minus 62 32766 1000 ∷
    plus_minus 64 28 100 ∷
    plus_minus 65 252 100 ∷
    plus_minus 66 2044 100 ∷
    plus_minus 67 32764 100 ∷
    from_to 71 1 4 1 ∷
    plus_minus 73 8500 100 ∷
    plus_minus 74 18000 100 ∷
    from_to 75 1 16 1 ∷
    from_to 76 1 16 1 ∷
    from_to 77 25 150 10 ∷
    from_to 78 25 150 10 ∷
    plus_minus 80 51175 100 ∷
    plus_minus 82 1575 100 ∷
    plus_minus 83 25575 100 ∷
    []

abbrev same : Bool → Bool → Bool
same true b = b
same false b = not b

-- a step count, at so many steps a unit, is the decimal, negative or not
abbrev is_at : Bool → (digits over per_unit : ℕ) → ℤ → Bool
is_at minus digits over per_unit z = same minus (negative z) && eqb (steps z * over) (digits * per_unit)

-- code 0 means the lowest value, the highest code of the range the highest
abbrev agree_by : (number most : ℕ) → Means → Range → Bool
agree_by number most nothing range = false
agree_by number most (counts s per_unit meaning) (plus_minus n digits over) =
    eqb number n && (is_at true digits over per_unit (step_count s 0) && is_at false digits over per_unit (step_count s most))
agree_by number most (counts s per_unit meaning) (from_to n low high over) =
    eqb number n && (is_at false low over per_unit (step_count s 0) && is_at false high over per_unit (step_count s most))

-- the lines that have a value
abbrev valued_by : Means → Line → List Line → List Line
valued_by nothing line others = others
valued_by (counts s per_unit meaning) line others = line ∷ others

unfoldable pub valued : List Line → List Line
valued [] = []
valued (line ∷ lines) = valued_by line.means line (valued lines)

unfoldable pub all_agree : List Line → List Range → Bool
all_agree [] [] = true
all_agree [] (range ∷ others) = false
all_agree (line ∷ lines) [] = false
all_agree (line ∷ lines) (range ∷ others) = agree_by line.number line.most line.means range && all_agree lines others

pub table-agrees : all_agree (valued table) ranges ≡ true
unfolding all_agree valued table ranges
table-agrees = refl

-- ---- the fields that document 01 lists

abbrev with-field : Bool → ℕ → List ℕ → List ℕ
with-field true number others = number ∷ others
with-field false number others = others

unfoldable pub fields : (Line → Bool) → List Line → List ℕ
fields test [] = []
fields test (line ∷ lines) = with-field (test line) line.number (fields test lines)

abbrev is_residual : Means → Bool
is_residual nothing = false
is_residual (counts s per_unit metres) = false
is_residual (counts s per_unit degrees) = false
is_residual (counts s per_unit tecu) = false
is_residual (counts s per_unit coefficient) = false
is_residual (counts s per_unit count) = false
is_residual (counts s per_unit residual_metres) = true
is_residual (counts s per_unit residual_tecu) = true
is_residual (counts s per_unit yaw) = false

-- "The top code is "invalid" for SF052, 053, 064 to 067, 082 and 083,"
pub residuals : fields (λ line. is_residual line.means) table ≡ 52 ∷ 53 ∷ 64 ∷ 65 ∷ 66 ∷ 67 ∷ 82 ∷ 83 ∷ []
unfolding fields table
residuals = refl

pub top-is-invalid : fields (λ line. not (eqb line.invalid line.most) && eqb line.most (2 ^ line.width - 2)) table
    ≡ 52 ∷ 53 ∷ 64 ∷ 65 ∷ 66 ∷ 67 ∷ 82 ∷ 83 ∷ []
unfolding fields table
top-is-invalid = refl

-- "and FIELD for SF020, 029, 043, 045 to 050, 057 to 062 and 080." SF040 takes 0 to 2, which is all but its top code too.
pub top-is-field : fields (λ line. eqb line.most (2 ^ line.width - 2) && eqb line.invalid line.most) table
    ≡ 20 ∷ 29 ∷ 40 ∷ 43 ∷ 45 ∷ 46 ∷ 47 ∷ 48 ∷ 49 ∷ 50 ∷ 57 ∷ 58 ∷ 59 ∷ 60 ∷ 61 ∷ 62 ∷ 80 ∷ []
unfolding fields table
top-is-field = refl

abbrev is_one_more : Means → Bool
is_one_more nothing = false
is_one_more (counts (about middle) per_unit meaning) = false
is_one_more (counts one_more_of per_unit meaning) = true
is_one_more (counts sixfold per_unit meaning) = false
is_one_more (counts spacings per_unit meaning) = false

-- "SF030, 034 to 037, 071, 075, 076 mean code plus one"
pub one_more : fields (λ line. is_one_more line.means) table ≡ 30 ∷ 34 ∷ 35 ∷ 36 ∷ 37 ∷ 71 ∷ 75 ∷ 76 ∷ []
unfolding fields table
one_more = refl

-- ---- the ranges that document 01 lists, and request 6 of document 02

-- the highest code of each field that takes neither its full width nor all codes but the top one, behind the field's number
unfoldable pub own_ranges : List Line → List ℕ
own_ranges [] = []
own_ranges (line ∷ lines) =
    with-field (not (eqb line.most (2 ^ line.width - 1)) && not (eqb line.most (2 ^ line.width - 2))) line.number
    (with-field (not (eqb line.most (2 ^ line.width - 1)) && not (eqb line.most (2 ^ line.width - 2))) line.most (own_ranges lines))

-- "Other ranges: SF021 0 to 59, with 63 invalid; SF032 0 to 1800; SF033 0 to 3600; SF073 0 to 170; SF074 0 to 360; .. SF041 and SF054 0 to 2." "All else takes its
-- full width." And document 02, request 6: "Refuse TBD values: GPS and GLONASS 1 to 3, Galileo and QZSS 3 to 7, BeiDou 6 to 15."
pub own-ranges : own_ranges table ≡ 16 ∷ 0 ∷ 17 ∷ 0 ∷ 21 ∷ 59 ∷ 32 ∷ 1800 ∷ 33 ∷ 3600 ∷ 41 ∷ 2 ∷ 54 ∷ 2 ∷ 73 ∷ 170 ∷ 74 ∷ 360 ∷ 96 ∷ 2 ∷ 97 ∷ 5 ∷ 98 ∷ 2 ∷ []
unfolding own_ranges table
own-ranges = refl
