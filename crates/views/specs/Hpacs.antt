-- Definitions to believe: an area of an HPAC sheet by its ID (document 000, tables 6.13 to 6.22). HPAC has no corner and no spacing of an area, those are GAD's:
-- the view is the block's head and where the block starts on the sheet. Residuals and coefficients stay codes (crate values).
use Rattle.std.specs.Prelude.{List, [], ◌∷◌, ℕ, ◌+◌, length, Ok, Err, Some, None}
use Rattle.answer.specs.Number.{number_of}
use Rattle.answer.specs.Place.{nowhere}
use Rattle.answer.specs.declared.Refusal.TheVariants as refusal
use Rattle.codes.specs.declared.Constellation.{Constellation}
use Rattle.hpac.specs.Hpac as hpac
use Rattle.layout.specs.Layout.{done}
use Rattle.layout.specs.Record.{record_of}
use Rattle.message.specs.Messages.{constellation_of}
use Rattle.sheet.specs.Sheet.{judged_sheet}
use Rattle.views.specs.declared.hpacarea.HpacArea.{HpacArea}
use Rattle.views.specs.Results.{HpacAnswer}
use Rattle.views.specs.Entries.{entries_of}
use Rattle.views.specs.First.{first}
use Rattle.views.specs.Judged.{if_taken, for_constellation}

-- the areas of a sheet
abbrev pub hpac_areas : Constellation → List ℕ → List hpac.Area
hpac_areas constellation sheet = (record_of (hpac.hpac constellation done) sheet).areas

-- ---- how many entries of the sheet a block has, one a field

-- a constant, two slopes, a product
abbrev pub polynomial_entries : hpac.Polynomial → ℕ
polynomial_entries p = 1 + (entries_of (λ s. 2) p.slopes + entries_of (λ c. 1) p.product)

-- SF051 or SF063, and the residuals
abbrev pub grid_entries : hpac.Grid → ℕ
grid_entries g = 1 + length g.residuals

-- table 6.16: SF041 to SF044, the polynomial, the grid
abbrev pub troposphere_entries : hpac.Troposphere → ℕ
troposphere_entries t = 4 + (polynomial_entries t.polynomial + entries_of grid_entries t.grid)

-- table 6.20: SF055, SF056, the polynomial, the grid
abbrev pub slant_entries : hpac.Slant → ℕ
slant_entries s = 2 + (polynomial_entries s.polynomial + entries_of grid_entries s.grid)

abbrev pub slants_entries : List hpac.Slant → ℕ
slants_entries [] = 0
slants_entries (s ∷ ss) = slant_entries s + slants_entries ss

-- table 6.19: SF054, the mask's size and its bits, the satellites
abbrev pub ionosphere_entries : hpac.Ionosphere → ℕ
ionosphere_entries i = 3 + slants_entries i.satellites

-- tables 6.14 and 6.15: SF031, SF039, both SF040, the blocks
abbrev pub hpac_entries : hpac.Area → ℕ
hpac_entries a = 4 + (entries_of troposphere_entries a.troposphere + entries_of ionosphere_entries a.ionosphere)

-- ---- the view

-- of a block that starts at this entry of the sheet
abbrev pub hpac_area : (start : ℕ) → hpac.Area → HpacArea
hpac_area start a =
    record { start = start; points = a.points; troposphere_blocks = a.troposphere_blocks; ionosphere_blocks = a.ionosphere_blocks }

-- a header of four entries, then the areas
abbrev pub first_hpac : ℕ → List hpac.Area → HpacAnswer
first_hpac id areas = first (λ (a : hpac.Area). a.id) hpac_entries (λ at a. Ok (Some (hpac_area at a))) (Ok None) id 4 areas

-- what `hpac_area` answers
unfoldable pub hpac_answer_of : (subtype id : ℕ) (sheet : List ℕ) → HpacAnswer
hpac_answer_of subtype id sheet =
    if_taken (judged_sheet 1 subtype sheet) Err (
    for_constellation (constellation_of subtype) (Err (nowhere refusal.UnknownType)) (λ constellation.
    first_hpac id (hpac_areas constellation sheet)))
