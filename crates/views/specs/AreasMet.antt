-- Theorems: on a GAD or BPAC sheet that the writer accepts each number of a view is the value of its code; the last cases of Units.antt are not met.
use Rattle.std.specs.Prelude.{◌≡◌, refl, List, ℕ, Ok}
use Rattle.message.specs.Messages.{gad_message, gad_layout, bpac_message, bpac_layout}
use Rattle.sheet.specs.Sheet.{judged_sheet}
use Rattle.views.specs.Along.{EachOf}
use Rattle.views.specs.AlongBpac.{BpacMet, bpac-ends}
use Rattle.views.specs.AlongGad.{GadMet, gad-ends}
use Rattle.views.specs.Bpacs.{bpac_areas}
use Rattle.views.specs.Gads.{gad_blocks}
use Rattle.views.specs.Taken.{taken-holds}

-- Each block of a GAD sheet that the writer accepts has its values.
pub gad-met : (sheet : List ℕ) {bits bytes : ℕ} → judged_sheet 2 0 sheet ≡ Ok (record { bits = bits; bytes = bytes }) → EachOf GadMet (gad_blocks sheet)
gad-met sheet e = gad-ends sheet gad_message (λ m g. EachOf GadMet g.blocks) (λ g met. met) (taken-holds 2 0 sheet gad_layout refl refl e)

-- Each area of a BPAC sheet that the writer accepts has its values.
pub bpac-met : (sheet : List ℕ) {bits bytes : ℕ} → judged_sheet 3 0 sheet ≡ Ok (record { bits = bits; bytes = bytes }) → EachOf BpacMet (bpac_areas sheet)
bpac-met sheet e = bpac-ends sheet bpac_message (λ m b. EachOf BpacMet b.areas) (λ b met. met) (taken-holds 3 0 sheet bpac_layout refl refl e)
