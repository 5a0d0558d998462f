-- Two results of a public call of this crate cannot differ: for equal inputs, answers and lent buffers that meet the contract are equal. Proved.
-- Written by tests/determined from the contracts in src/.
use Rattle.std.specs.Prelude.{ℕ, List, ◌≡◌}
use Rattle.codes.specs.declared.Constellation.{Constellation}
use Rattle.quick.specs.Ocb.{ephemeris_width, iode_width}
use Rattle.quick.specs.Quick.{quick_of}
use Rattle.quick.specs.Results.{Quick}
use Rattle.std.proofs.Common.{◌∙◌, sym}

pub judge-determined : (kind subtype : ℕ) (payload : List ℕ) (r₁ r₂ : Quick)
    → r₁ ≡ quick_of kind subtype payload
    → r₂ ≡ quick_of kind subtype payload
    → r₁ ≡ r₂
judge-determined kind subtype payload r₁ r₂ e0₁ e0₂ = e0₁ ∙ sym e0₂

pub ephemeris-width-determined : (constellation : Constellation) (r₁ r₂ : ℕ)
    → r₁ ≡ ephemeris_width constellation
    → r₂ ≡ ephemeris_width constellation
    → r₁ ≡ r₂
ephemeris-width-determined constellation r₁ r₂ e0₁ e0₂ = e0₁ ∙ sym e0₂

pub iode-width-determined : (constellation : Constellation) (r₁ r₂ : ℕ)
    → r₁ ≡ iode_width constellation
    → r₂ ≡ iode_width constellation
    → r₁ ≡ r₂
iode-width-determined constellation r₁ r₂ e0₁ e0₂ = e0₁ ∙ sym e0₂
