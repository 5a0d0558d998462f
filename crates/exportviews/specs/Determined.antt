-- Two results of a public call of this crate cannot differ: for equal inputs, answers and lent buffers that meet the contract are equal. Proved.
-- Written by tests/determined from the contracts in src/.
use Rattle.std.specs.Prelude.{ℕ, Float, List, ◌≡◌}
use Rattle.export.specs.Numbers.{answered, lent_after, stored}
use Rattle.exportviews.specs.Areas.{bpac_floats, bpac_room, gad_floats, gad_room, hpac_room, told_bpac, told_gad, told_hpac}
use Rattle.exportviews.specs.Satellites.{satellite_floats, satellite_room, told_satellite}
use Rattle.exportviews.specs.Views.{floats_after, number_told, view_after}
use Rattle.views.specs.Bpacs.{bpac_answer_of}
use Rattle.views.specs.Gads.{gad_answer_of}
use Rattle.views.specs.Hpacs.{hpac_answer_of}
use Rattle.views.specs.Satellites.{satellite_answer_of}
use Rattle.std.proofs.Common.{◌∙◌, sym}

pub gad-area-determined : (id : ℕ) (sheet view : List ℕ) (floats : List Float) (r₁ r₂ : ℕ) (view₁ view₂ : List ℕ) (floats₁ floats₂ : List Float)
    → r₁ ≡ number_told gad_room view gad_floats floats (told_gad (gad_answer_of id sheet))
    → r₂ ≡ number_told gad_room view gad_floats floats (told_gad (gad_answer_of id sheet))
    → view₁ ≡ view_after gad_room view gad_floats floats (told_gad (gad_answer_of id sheet))
    → view₂ ≡ view_after gad_room view gad_floats floats (told_gad (gad_answer_of id sheet))
    → floats₁ ≡ floats_after gad_room view gad_floats floats (told_gad (gad_answer_of id sheet))
    → floats₂ ≡ floats_after gad_room view gad_floats floats (told_gad (gad_answer_of id sheet))
    → (r₁ ≡ r₂) × (view₁ ≡ view₂) × (floats₁ ≡ floats₂)
gad-area-determined id sheet view floats r₁ r₂ view₁ view₂ floats₁ floats₂ e0₁ e0₂ e1₁ e1₂ e2₁ e2₂ = (e0₁ ∙ sym e0₂, e1₁ ∙ sym e1₂, e2₁ ∙ sym e2₂)

pub hpac-area-determined : (subtype id : ℕ) (sheet view : List ℕ) (r₁ r₂ : ℕ) (view₁ view₂ : List ℕ)
    → r₁ ≡ answered hpac_room view (told_hpac (hpac_answer_of subtype id sheet))
    → r₂ ≡ answered hpac_room view (told_hpac (hpac_answer_of subtype id sheet))
    → view₁ ≡ lent_after hpac_room view (told_hpac (hpac_answer_of subtype id sheet))
    → view₂ ≡ lent_after hpac_room view (told_hpac (hpac_answer_of subtype id sheet))
    → (r₁ ≡ r₂) × (view₁ ≡ view₂)
hpac-area-determined subtype id sheet view r₁ r₂ view₁ view₂ e0₁ e0₂ e1₁ e1₂ = (e0₁ ∙ sym e0₂, e1₁ ∙ sym e1₂)

pub bpac-area-determined : (id : ℕ) (sheet view : List ℕ) (floats : List Float) (r₁ r₂ : ℕ) (view₁ view₂ : List ℕ) (floats₁ floats₂ : List Float)
    → r₁ ≡ number_told bpac_room view bpac_floats floats (told_bpac (bpac_answer_of id sheet))
    → r₂ ≡ number_told bpac_room view bpac_floats floats (told_bpac (bpac_answer_of id sheet))
    → view₁ ≡ view_after bpac_room view bpac_floats floats (told_bpac (bpac_answer_of id sheet))
    → view₂ ≡ view_after bpac_room view bpac_floats floats (told_bpac (bpac_answer_of id sheet))
    → floats₁ ≡ floats_after bpac_room view bpac_floats floats (told_bpac (bpac_answer_of id sheet))
    → floats₂ ≡ floats_after bpac_room view bpac_floats floats (told_bpac (bpac_answer_of id sheet))
    → (r₁ ≡ r₂) × (view₁ ≡ view₂) × (floats₁ ≡ floats₂)
bpac-area-determined id sheet view floats r₁ r₂ view₁ view₂ floats₁ floats₂ e0₁ e0₂ e1₁ e1₂ e2₁ e2₂ = (e0₁ ∙ sym e0₂, e1₁ ∙ sym e1₂, e2₁ ∙ sym e2₂)

pub put-floats-determined : (floats out : List Float) (out₁ out₂ : List Float)
    → out₁ ≡ stored floats out
    → out₂ ≡ stored floats out
    → out₁ ≡ out₂
put-floats-determined floats out out₁ out₂ e0₁ e0₂ = e0₁ ∙ sym e0₂

pub satellite-at-determined : (subtype : ℕ) (sheet : List ℕ) (place : ℕ) (view : List ℕ) (floats : List Float) (r₁ r₂ : ℕ) (view₁ view₂ : List ℕ) (floats₁ floats₂ : List Float)
    → r₁ ≡ number_told satellite_room view satellite_floats floats (told_satellite (satellite_answer_of subtype sheet place))
    → r₂ ≡ number_told satellite_room view satellite_floats floats (told_satellite (satellite_answer_of subtype sheet place))
    → view₁ ≡ view_after satellite_room view satellite_floats floats (told_satellite (satellite_answer_of subtype sheet place))
    → view₂ ≡ view_after satellite_room view satellite_floats floats (told_satellite (satellite_answer_of subtype sheet place))
    → floats₁ ≡ floats_after satellite_room view satellite_floats floats (told_satellite (satellite_answer_of subtype sheet place))
    → floats₂ ≡ floats_after satellite_room view satellite_floats floats (told_satellite (satellite_answer_of subtype sheet place))
    → (r₁ ≡ r₂) × (view₁ ≡ view₂) × (floats₁ ≡ floats₂)
satellite-at-determined subtype sheet place view floats r₁ r₂ view₁ view₂ floats₁ floats₂ e0₁ e0₂ e1₁ e1₂ e2₁ e2₂ = (e0₁ ∙ sym e0₂, e1₁ ∙ sym e1₂, e2₁ ∙ sym e2₂)
