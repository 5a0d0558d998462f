-- An area: the 47 bits of a GAD block as a number (document 000, table 6.24; document 01, "Book and run"). Definitions to believe.
use Rattle.std.specs.Prelude.{Bool, cond, not, ◌&&◌, List, [], ◌∷◌, ◌++◌, ℕ, ◌+◌, ◌*◌, ◌/◌, ◌%◌, ◌^◌, leb, ltb, length, get_or, take, drop}
use Rattle.area.specs.declared.AreaId.{AreaId}

-- its fields, most significant first: ID 8 bits, reference latitude 11, reference longitude 12, rows 3, columns 3, spacing of the
-- latitudes 5, spacing of the longitudes 5
abbrev pub sf031 : ℕ → ℕ
sf031 a = a / 2 ^ 39 % 2 ^ 8

abbrev pub sf032 : ℕ → ℕ
sf032 a = a / 2 ^ 28 % 2 ^ 11

abbrev pub sf033 : ℕ → ℕ
sf033 a = a / 2 ^ 16 % 2 ^ 12

abbrev pub sf034 : ℕ → ℕ
sf034 a = a / 2 ^ 13 % 2 ^ 3

abbrev pub sf035 : ℕ → ℕ
sf035 a = a / 2 ^ 10 % 2 ^ 3

abbrev pub sf036 : ℕ → ℕ
sf036 a = a / 2 ^ 5 % 2 ^ 5

abbrev pub sf037 : ℕ → ℕ
sf037 a = a % 2 ^ 5

-- its ID, apart from BPAC's
abbrev pub area_id : ℕ → AreaId
area_id id = record { 0 = id }

-- "SF030, 034 to 037, .. mean code plus one (036 and 037 in tenths of a degree)"
abbrev pub rows : ℕ → ℕ
rows a = sf034 a + 1

abbrev pub columns : ℕ → ℕ
columns a = sf035 a + 1

abbrev pub latitude_spacing : ℕ → ℕ
latitude_spacing a = sf036 a + 1

-- lat x lon nodes
abbrev pub nodes : ℕ → ℕ
nodes a = rows a * columns a

-- "SF032 0 to 1800; SF033 0 to 3600"
abbrev pub in_range : ℕ → Bool
in_range a = leb (sf032 a) 1800 && leb (sf033 a) 3600

-- AREA_OFF: "grid runs south of -90.0 degrees". Rows run south from the reference latitude, whose code is its distance from there in tenths.
unfoldable pub area_off : ℕ → Bool
area_off a = ltb (sf032 a) (sf034 a * latitude_spacing a)

-- a number that is an area of a sound book: 47 bits, fields in range, no AREA_OFF
unfoldable pub is_area : ℕ → Bool
is_area a = ltb a (2 ^ 47) && (in_range a && not (area_off a))

-- "six bytes each: the 47 bits of the GAD block and a zero bit"
abbrev pub bytes_of : ℕ → List ℕ
bytes_of a = (a / 2 ^ 39 % 256) ∷ (a / 2 ^ 31 % 256) ∷ (a / 2 ^ 23 % 256) ∷ (a / 2 ^ 15 % 256) ∷ (a / 2 ^ 7 % 256) ∷ (a % 2 ^ 7 * 2) ∷ []

-- the number that the first six bytes say
abbrev pub number_in : List ℕ → ℕ
number_in s = ((((get_or s 0 0 * 256 + get_or s 1 0) * 256 + get_or s 2 0) * 256 + get_or s 3 0) * 256 + get_or s 4 0) * 256 + get_or s 5 0

-- what `number_at` answers: the number that the six bytes from `at` on say, and 0 if they are not there
abbrev pub number_at : List ℕ → ℕ → ℕ
number_at s at = cond (leb (at + 6) (length s)) (number_in (drop at s)) 0

-- what `put_at` leaves: the area's six bytes from `at` on, and nothing changed if they are not there
abbrev pub put_at : List ℕ → ℕ → ℕ → List ℕ
put_at s at a = cond (leb (at + 6) (length s)) (take at s ++ (bytes_of a ++ drop (at + 6) s)) s
