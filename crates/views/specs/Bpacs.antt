-- Definitions to believe: an area of a BPAC sheet by its ID (document 000, tables 6.25 to 6.28). "A BPAC area ID and an area ID are counted apart."
use Rattle.std.specs.Prelude.{List, ℕ, ◌+◌, ◌*◌, ltb, length, Ok, Err, Some, None}
use Rattle.answer.specs.Number.{number_of}
use Rattle.answer.specs.Place.{nowhere}
use Rattle.answer.specs.declared.Refusal.TheVariants as refusal
use Rattle.bpac.specs.Bpac as bpac
use Rattle.fields.specs.Fields.{sf}
use Rattle.layout.specs.Layout.{done, pick}
use Rattle.layout.specs.Record.{record_of}
use Rattle.sheet.specs.Sheet.{judged_sheet}
use Rattle.views.specs.declared.bpacarea.BpacArea.{BpacArea}
use Rattle.views.specs.Results.{BpacAnswer}
use Rattle.views.specs.First.{first}
use Rattle.views.specs.Judged.{if_taken}
use Rattle.views.specs.Units.{in_unit, count_in}

-- the areas of a sheet, tables 6.26 to 6.28
abbrev pub bpac_areas : List ℕ → List bpac.Area
bpac_areas sheet = (record_of (bpac.bpac done) sheet).areas

-- eight entries, the groups of the node mask, three entries a VTEC block
abbrev pub bpac_entries : bpac.Area → ℕ
bpac_entries a = 8 + (length a.node_mask + 3 * length a.nodes)

-- of a block that starts at this entry of the sheet: SF073, 074, 077 and 078 in degrees, SF080 in TECU; SF075 and 076 mean code plus one
abbrev pub bpac_area : (start : ℕ) → bpac.Area → BpacArea
bpac_area start a =
    record {
      start = start;
      latitude = in_unit 73 a.latitude;
      longitude = in_unit 74 a.longitude;
      rows = count_in 75 a.rows;
      columns = count_in 76 a.columns;
      latitude_spacing = in_unit 77 a.latitude_spacing;
      longitude_spacing = in_unit 78 a.longitude_spacing;
      average = in_unit 80 a.average;
    }

-- a header of four entries, then the areas
abbrev pub first_bpac : ℕ → List bpac.Area → BpacAnswer
first_bpac id areas = first (λ (a : bpac.Area). a.id) bpac_entries (λ at a. Ok (Some (bpac_area at a))) (Ok None) id 4 areas

-- SF072 has two bits: an ID over 3 is an argument outside its range, FIELD
abbrev pub if_bpac_id : (id : ℕ) → BpacAnswer → BpacAnswer
if_bpac_id id rest = pick (ltb (sf 72).most id) (Err (nowhere refusal.Field)) rest

-- what `bpac_area` answers: the sheet is judged first, then the ID
unfoldable pub bpac_answer_of : (id : ℕ) (sheet : List ℕ) → BpacAnswer
bpac_answer_of id sheet =
    if_taken (judged_sheet 3 0 sheet) Err (
    if_bpac_id id (
    first_bpac id (bpac_areas sheet)))
