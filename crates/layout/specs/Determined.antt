-- Two results of a public call of this crate cannot differ: for equal inputs, answers and lent buffers that meet the contract are equal. Proved.
-- Written by tests/determined from the contracts in src/.
use Rattle.std.specs.Prelude.{ℕ, ◌≡◌}
use Rattle.layout.specs.Layout.{judge}
use Rattle.layout.specs.Parts.{up_to}
use Rattle.layout.specs.declared.Field.{Field}
use Rattle.layout.specs.Results.{Verdict}
use Rattle.std.proofs.Common.{◌∙◌, sym}

pub up-to-determined : (sf width most : ℕ) (r₁ r₂ : Field)
    → r₁ ≡ up_to sf width most
    → r₂ ≡ up_to sf width most
    → r₁ ≡ r₂
up-to-determined sf width most r₁ r₂ e0₁ e0₂ = e0₁ ∙ sym e0₂

pub judge-determined : (field : Field) (code : ℕ) (r₁ r₂ : Verdict)
    → r₁ ≡ judge field code
    → r₂ ≡ judge field code
    → r₁ ≡ r₂
judge-determined field code r₁ r₂ e0₁ e0₂ = e0₁ ∙ sym e0₂
