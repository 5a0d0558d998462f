-- Definitions to believe: the views of areas in numbers and floats. The first number is 1 if a block has the ID, else 0.
use Rattle.std.specs.Prelude.{List, [], ◌∷◌, ℕ, Float, Ok, Err, Some, None}
use Rattle.views.specs.declared.gadarea.GadArea.{GadArea}
use Rattle.views.specs.Results.{GadAnswer}
use Rattle.views.specs.declared.hpacarea.HpacArea.{HpacArea}
use Rattle.views.specs.Results.{HpacAnswer}
use Rattle.views.specs.declared.bpacarea.BpacArea.{BpacArea}
use Rattle.views.specs.Results.{BpacAnswer}
use Rattle.export.specs.Numbers as export
use Rattle.exportviews.specs.Views.{Told, refused_at, absent}

-- ---- GAD: three numbers and four floats

abbrev pub gad_room : ℕ
gad_room = 3

abbrev pub gad_floats : ℕ
gad_floats = 4

-- the counts of nodes
unfoldable pub gad_numbers_of : GadArea → List ℕ
gad_numbers_of a = 1 ∷ a.rows ∷ a.columns ∷ []

-- the reference corner and the spacings, in degrees
unfoldable pub gad_floats_of : GadArea → List Float
gad_floats_of a = a.latitude ∷ a.longitude ∷ a.latitude_spacing ∷ a.longitude_spacing ∷ []

unfoldable pub told_gad : GadAnswer → Told
told_gad (Ok (Some area)) = record { number = 0; numbers = gad_numbers_of area; floats = gad_floats_of area }
told_gad (Ok None) = absent
told_gad (Err fault) = refused_at fault

-- ---- HPAC: five numbers

abbrev pub hpac_room : ℕ
hpac_room = 5

-- the entry at which the block starts, SF039, both SF040
unfoldable pub hpac_numbers_of : HpacArea → List ℕ
hpac_numbers_of a = 1 ∷ a.start ∷ a.points ∷ a.troposphere_blocks ∷ a.ionosphere_blocks ∷ []

unfoldable pub told_hpac : HpacAnswer → export.Told
told_hpac (Ok (Some area)) = record { number = 0; numbers = hpac_numbers_of area }
told_hpac (Ok None) = record { number = 0; numbers = 0 ∷ [] }
told_hpac (Err fault) = export.refused_at fault

-- ---- BPAC: four numbers and five floats

abbrev pub bpac_room : ℕ
bpac_room = 4

abbrev pub bpac_floats : ℕ
bpac_floats = 5

-- the entry at which the block starts, the counts of nodes
unfoldable pub bpac_numbers_of : BpacArea → List ℕ
bpac_numbers_of a = 1 ∷ a.start ∷ a.rows ∷ a.columns ∷ []

-- the reference corner and the spacings in degrees, the average VTEC in TECU
unfoldable pub bpac_floats_of : BpacArea → List Float
bpac_floats_of a = a.latitude ∷ a.longitude ∷ a.latitude_spacing ∷ a.longitude_spacing ∷ a.average ∷ []

unfoldable pub told_bpac : BpacAnswer → Told
told_bpac (Ok (Some area)) = record { number = 0; numbers = bpac_numbers_of area; floats = bpac_floats_of area }
told_bpac (Ok None) = absent
told_bpac (Err fault) = refused_at fault
