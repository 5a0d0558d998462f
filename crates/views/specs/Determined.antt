-- Two results of a public call of this crate cannot differ: for equal inputs, answers and lent buffers that meet the contract are equal. Proved.
-- Written by tests/determined from the contracts in src/.
use Rattle.area.specs.declared.AreaId.{AreaId}
use Rattle.bpac.specs.declared.BpacAreaId.{BpacAreaId}
use Rattle.std.proofs.Common.{sym, ◌∙◌}
use Rattle.std.specs.Prelude.{List, ℕ, ◌≡◌}
use Rattle.views.specs.Bpacs.{bpac_answer_of}
use Rattle.views.specs.Gads.{gad_answer_of}
use Rattle.views.specs.Hpacs.{hpac_answer_of}
use Rattle.views.specs.Results.{BpacAnswer, GadAnswer, HpacAnswer, SatelliteAnswer}
use Rattle.views.specs.Satellites.{satellite_answer_of}

pub bpac-area-determined : (id : BpacAreaId) (sheet : List ℕ) (r₁ r₂ : BpacAnswer)
    → r₁ ≡ bpac_answer_of id.0 sheet
    → r₂ ≡ bpac_answer_of id.0 sheet
    → r₁ ≡ r₂
bpac-area-determined id sheet r₁ r₂ e0₁ e0₂ = e0₁ ∙ sym e0₂

pub gad-area-determined : (id : AreaId) (sheet : List ℕ) (r₁ r₂ : GadAnswer)
    → r₁ ≡ gad_answer_of id.0 sheet
    → r₂ ≡ gad_answer_of id.0 sheet
    → r₁ ≡ r₂
gad-area-determined id sheet r₁ r₂ e0₁ e0₂ = e0₁ ∙ sym e0₂

pub hpac-area-determined : (subtype : ℕ) (id : AreaId) (sheet : List ℕ) (r₁ r₂ : HpacAnswer)
    → r₁ ≡ hpac_answer_of subtype id.0 sheet
    → r₂ ≡ hpac_answer_of subtype id.0 sheet
    → r₁ ≡ r₂
hpac-area-determined subtype id sheet r₁ r₂ e0₁ e0₂ = e0₁ ∙ sym e0₂

pub satellite-at-determined : (subtype : ℕ) (sheet : List ℕ) (place : ℕ) (r₁ r₂ : SatelliteAnswer)
    → r₁ ≡ satellite_answer_of subtype sheet place
    → r₂ ≡ satellite_answer_of subtype sheet place
    → r₁ ≡ r₂
satellite-at-determined subtype sheet place r₁ r₂ e0₁ e0₂ = e0₁ ∙ sym e0₂
