-- Two results of a public call of this crate cannot differ: for equal inputs, answers and lent buffers that meet the contract are equal. Proved.
-- Written by tests/determined from the contracts in src/.
use Rattle.std.specs.Prelude.{ℕ, ◌≡◌}
use Rattle.gad.specs.Machine.{gad_field, gad_step}
use Rattle.gad.specs.Rows.{gad_row}
use Rattle.gad.specs.declared.State.{State}
use Rattle.layout.specs.declared.Field.{Field}
use Rattle.rows.specs.declared.Row.{Row}
use Rattle.std.proofs.Common.{◌∙◌, sym}

pub field-of-determined : (s : State) (r₁ r₂ : Field)
    → r₁ ≡ gad_field s
    → r₂ ≡ gad_field s
    → r₁ ≡ r₂
field-of-determined s r₁ r₂ e0₁ e0₂ = e0₁ ∙ sym e0₂

pub advance-determined : (s : State) (code : ℕ) (r₁ r₂ : State)
    → r₁ ≡ gad_step s code
    → r₂ ≡ gad_step s code
    → r₁ ≡ r₂
advance-determined s code r₁ r₂ e0₁ e0₂ = e0₁ ∙ sym e0₂

pub row-of-determined : (s : State) (r₁ r₂ : Row)
    → r₁ ≡ gad_row s
    → r₂ ≡ gad_row s
    → r₁ ≡ r₂
row-of-determined s r₁ r₂ e0₁ e0₂ = e0₁ ∙ sym e0₂
