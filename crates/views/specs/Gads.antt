-- Definitions to believe: an area of a GAD sheet by its ID (document 000, tables 6.23 and 6.24).
use Rattle.std.specs.Prelude.{List, ℕ, Ok, Err, Some, None}
use Rattle.answer.specs.Number.{number_of}
use Rattle.gad.specs.Gad as gad
use Rattle.layout.specs.Layout.{done}
use Rattle.layout.specs.Record.{record_of}
use Rattle.sheet.specs.Sheet.{judged_sheet}
use Rattle.views.specs.declared.gadarea.GadArea.{GadArea}
use Rattle.views.specs.Results.{GadAnswer}
use Rattle.views.specs.First.{first}
use Rattle.views.specs.Judged.{if_taken}
use Rattle.views.specs.Units.{in_unit, count_in}

-- the blocks of a sheet, table 6.24
abbrev pub gad_blocks : List ℕ → List gad.Block
gad_blocks sheet = (record_of (gad.gad done) sheet).blocks

-- SF032, 033, 036 and 037 in degrees; SF034 and 035 mean code plus one
abbrev pub gad_area : gad.Block → GadArea
gad_area b =
    record {
      latitude = in_unit 32 b.latitude;
      longitude = in_unit 33 b.longitude;
      rows = count_in 34 b.rows;
      columns = count_in 35 b.columns;
      latitude_spacing = in_unit 36 b.latitude_spacing;
      longitude_spacing = in_unit 37 b.longitude_spacing;
    }

-- a header of four entries, then blocks of seven
abbrev pub first_gad : ℕ → List gad.Block → GadAnswer
first_gad id blocks = first (λ (b : gad.Block). b.id) (λ b. 7) (λ at b. Ok (Some (gad_area b))) (Ok None) id 4 blocks

-- what `gad_area` answers
unfoldable pub gad_answer_of : (id : ℕ) (sheet : List ℕ) → GadAnswer
gad_answer_of id sheet = if_taken (judged_sheet 2 0 sheet) Err (first_gad id (gad_blocks sheet))
