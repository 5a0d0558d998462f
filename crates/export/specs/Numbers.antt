-- Definitions to believe: how a call for C says in numbers and lent slices what the call below it answers.
use Rattle.std.specs.Prelude.{cond, List, [], ◌++◌, ℕ, ◌+◌, ◌-◌, ◌*◌, ◌^◌, ltb, length, drop}
use Rattle.answer.specs.Number.{number_of}
use Rattle.answer.specs.Place.{sf_in, at_in}
use Rattle.answer.specs.declared.Refusal.{Refusal}
use Rattle.answer.specs.declared.Fault.{Fault}

-- what a caller is told: document 01's number, of a refusal with its place, and further numbers
pub record Told : Type 0 where
  pub number : ℕ
  pub numbers : List ℕ

-- all counts beside a refusal are 0 (DECISIONS): none is told
abbrev pub refused : Refusal → Told
refused refusal = record { number = number_of refusal; numbers = [] }

-- a number, or the highest that counts
unfoldable pub at_most : ℕ → ℕ → ℕ
at_most most x = cond (ltb x most) x most

-- Document 02, request 2: number, SF number and place in the answer itself, "number + 2^8 x SF number + 2^32 x bit or entry .., SF number 0 where there is no place" (DECISIONS). What its
-- bits do not hold is told as the highest number that they do; every field's number and every bit of a payload has room (specs/Answers.antt).
abbrev pub most_sf : ℕ
most_sf = 2 ^ 24 - 1

abbrev pub most_place : ℕ
most_place = 2 ^ 32 - 1

unfoldable pub answer_of : Fault → ℕ
answer_of fault = number_of fault.refusal + (2 ^ 8 * at_most most_sf (sf_in fault.place) + 2 ^ 32 * at_most most_place (at_in fault.place))

-- a refusal that can have a place
abbrev pub refused_at : Fault → Told
refused_at fault = record { number = answer_of fault; numbers = [] }

-- document 01's number of ROOM
abbrev pub room : ℕ
room = 9

-- "lent buffer under its stated size", before anything else: one answer if the slice has fewer places than it wants, else the other
unfoldable pub room_for : {A B : Type 0} → ℕ → List B → A → A → A
room_for size lent short rest = cond (ltb (length lent) size) short rest

-- numbers, or floats, are written from the slice's start on; "parts of outputs beyond what is written stay as lent"
unfoldable pub laid : {A : Type 0} → List A → List A → List A
laid numbers lent = numbers ++ drop (length numbers) lent

-- nothing is written where there are fewer places than numbers
unfoldable pub stored : {A : Type 0} → List A → List A → List A
stored numbers lent = room_for (length numbers) lent lent (laid numbers lent)

-- the number of a call that is lent a slice for the further numbers, and that slice afterwards
unfoldable pub answered : ℕ → List ℕ → Told → ℕ
answered size lent told = room_for size lent room told.number

unfoldable pub lent_after : ℕ → List ℕ → Told → List ℕ
lent_after size lent told = room_for size lent lent (laid told.numbers lent)
