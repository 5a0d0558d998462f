-- Definitions to believe: how the calls for C say in numbers and floats what the calls of crate entries answer.
use Rattle.std.specs.Prelude.{List, [], ◌∷◌, ℕ, ◌+◌, Float, Ok, Err, Some, None}
use Rattle.area.specs.Area.{nodes}
use Rattle.values.specs.declared.Residual.{Residual}
use Rattle.values.specs.declared.Residual.TheVariants as residual
use Rattle.entries.specs.Results.{Aiou}
use Rattle.entries.specs.Results.{Troposphere}
use Rattle.entries.specs.declared.Opened.{Opened}
use Rattle.entries.specs.declared.Placed.{Placed}
use Rattle.entries.specs.declared.LeftOut.{LeftOut}
use Rattle.entries.specs.declared.Entry.{Entry}
use Rattle.entries.specs.declared.Entry.TheVariants as entry
use Rattle.entries.specs.Results.{EntryRead}
use Rattle.entries.specs.Results.{ResidualRead}
use Rattle.entries.specs.Results.{SatelliteRead}
use Rattle.export.specs.Numbers as export
use Rattle.exportviews.specs.Views.{Told, refused}

-- ---- an entry: eight numbers at most

abbrev pub entry_room : ℕ
entry_room = 8

-- "AIOU + 1 (0 without a book)"
abbrev pub aiou_plus_one : Aiou → ℕ
aiou_plus_one None = 0
aiou_plus_one (Some n) = n + 1

-- T and the SF051 code, 0 where T is 0
abbrev pub count_in : Troposphere → ℕ
count_in None = 0
count_in (Some p) = p.count

abbrev pub size_in : Troposphere → ℕ
size_in None = 0
size_in (Some p) = p.size

-- the entry's kind, 1 to 3, and the bytes used; then of a run opened tag, AIOU + 1 and count,
unfoldable pub numbers_of_opened : Opened → (used : ℕ) → List ℕ
numbers_of_opened run used = 1 ∷ used ∷ run.tag ∷ aiou_plus_one run.aiou ∷ run.count ∷ []

-- of an area placed ID, the 47 bits, T, the SF051 code, S and the count of nodes: a satellite has a residual a node, also where T is 0,
unfoldable pub numbers_of_placed : Placed → (used : ℕ) → List ℕ
numbers_of_placed area used =
    2 ∷ used ∷ area.id.0 ∷ area.bits ∷ count_in area.troposphere ∷ size_in area.troposphere ∷ area.satellites ∷ nodes area.bits ∷ []

-- of an area left out ID and reason
unfoldable pub numbers_of_left_out : LeftOut → (used : ℕ) → List ℕ
numbers_of_left_out area used = 3 ∷ used ∷ area.id.0 ∷ area.reason ∷ []

unfoldable pub numbers_of_entry : Entry → (used : ℕ) → List ℕ
numbers_of_entry (entry.Opened run) used = numbers_of_opened run used
numbers_of_entry (entry.Placed area) used = numbers_of_placed area used
numbers_of_entry (entry.LeftOut area) used = numbers_of_left_out area used

unfoldable pub told_entry : EntryRead → export.Told
told_entry (Ok (told, used)) = record { number = 0; numbers = numbers_of_entry told used }
told_entry (Err refusal) = export.refused refusal

-- ---- a residual: a unit, as `homralgyu_value` has it (0 invalid, 1 metres, 3 TECU), with the code, and a float if it is not invalid

unfoldable pub numbers_of_residual : (code : ℕ) → Residual → List ℕ
numbers_of_residual code residual.Invalid = 0 ∷ code ∷ []
numbers_of_residual code (residual.Metres x) = 1 ∷ code ∷ []
numbers_of_residual code (residual.Tecu x) = 3 ∷ code ∷ []

unfoldable pub floats_of_residual : Residual → List Float
floats_of_residual residual.Invalid = []
floats_of_residual (residual.Metres x) = x ∷ []
floats_of_residual (residual.Tecu x) = x ∷ []

unfoldable pub told_residual : ResidualRead → Told
told_residual (Ok (code, value)) = record { number = 0; numbers = numbers_of_residual code value; floats = floats_of_residual value }
told_residual (Err refusal) = refused refusal

-- ---- a satellite: its number and its SF063 code

abbrev pub satellite_room : ℕ
satellite_room = 2

unfoldable pub told_satellite : SatelliteRead → export.Told
told_satellite (Ok (number, size)) = record { number = 0; numbers = number ∷ size ∷ [] }
told_satellite (Err refusal) = export.refused refusal
