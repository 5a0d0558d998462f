-- Two results of a public call of this crate cannot differ: for equal inputs, answers and lent buffers that meet the contract are equal. Proved.
-- Written by tests/determined from the contracts in src/.
use Rattle.std.specs.Prelude.{ℕ, ◌≡◌}
use Rattle.bpac.specs.Machine.{bpac_field, bpac_step}
use Rattle.bpac.specs.declared.State.{State}
use Rattle.layout.specs.declared.Field.{Field}
use Rattle.std.proofs.Common.{◌∙◌, sym}

pub field-of-determined : (s : State) (r₁ r₂ : Field)
    → r₁ ≡ bpac_field s
    → r₂ ≡ bpac_field s
    → r₁ ≡ r₂
field-of-determined s r₁ r₂ e0₁ e0₂ = e0₁ ∙ sym e0₂

pub advance-determined : (s : State) (code : ℕ) (r₁ r₂ : State)
    → r₁ ≡ bpac_step s code
    → r₂ ≡ bpac_step s code
    → r₁ ≡ r₂
advance-determined s code r₁ r₂ e0₁ e0₂ = e0₁ ∙ sym e0₂
