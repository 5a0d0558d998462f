-- Definitions to believe: how a call for C says in numbers, floats and lent slices what a view of crate views is.
use Rattle.std.specs.Prelude.{List, [], ◌∷◌, ℕ, pos, Float}
use Rattle.std.specs.Float.{binary64}
use Rattle.std.specs.Float.Ieee.{of_int}
use Rattle.answer.specs.Number.{number_of}
use Rattle.answer.specs.declared.Refusal.{Refusal}
use Rattle.answer.specs.declared.Fault.{Fault}
use Rattle.export.specs.Numbers.{answer_of, room, room_for, laid}

-- what a caller is told: document 01's number, of a refusal with its place, further numbers, and floats
pub record Told : Type 0 where
  pub number : ℕ
  pub numbers : List ℕ
  pub floats : List Float

-- "A refusal returns its number .. and alters no lent byte or entry": nothing more is told
abbrev pub refused : Refusal → Told
refused refusal = record { number = number_of refusal; numbers = []; floats = [] }

-- the same of a refusal that can have a place
abbrev pub refused_at : Fault → Told
refused_at fault = record { number = answer_of fault; numbers = []; floats = [] }

-- that no block has the ID is no refusal: a 0 is told, and nothing more
abbrev pub absent : Told
absent = record { number = 0; numbers = 0 ∷ []; floats = [] }

-- in the place of a float that is not there
abbrev pub none : Float
none = of_int binary64 (pos 0)

-- "lent buffer under its stated size", before anything else: the numbers' slice, then the floats'
unfoldable pub rooms : {A : Type 0} (m : ℕ) (view : List ℕ) (n : ℕ) (floats : List Float) (short rest : A) → A
rooms m view n floats short rest = room_for m view short (room_for n floats short rest)

-- the number of a call that is lent slices of m and n places, and these slices afterwards
unfoldable pub number_told : (m : ℕ) (view : List ℕ) (n : ℕ) (floats : List Float) → Told → ℕ
number_told m view n floats told = rooms m view n floats room told.number

unfoldable pub view_after : (m : ℕ) (view : List ℕ) (n : ℕ) (floats : List Float) → Told → List ℕ
view_after m view n floats told = rooms m view n floats view (laid told.numbers view)

unfoldable pub floats_after : (m : ℕ) (view : List ℕ) (n : ℕ) (floats : List Float) → Told → List Float
floats_after m view n floats told = rooms m view n floats floats (laid told.floats floats)
