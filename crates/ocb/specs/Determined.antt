-- Two results of a public call of this crate cannot differ: for equal inputs, answers and lent buffers that meet the contract are equal. Proved.
-- Written by tests/determined from the contracts in src/.
use Rattle.std.specs.Prelude.{ℕ, ◌≡◌}
use Rattle.layout.specs.declared.Field.{Field}
use Rattle.ocb.specs.Machine.{ocb_field, ocb_step}
use Rattle.ocb.specs.Rows.{ocb_last, ocb_row}
use Rattle.ocb.specs.declared.State.{State}
use Rattle.rows.specs.declared.Row.{Row}
use Rattle.std.proofs.Common.{◌∙◌, sym}

pub field-of-determined : (s : State) (r₁ r₂ : Field)
    → r₁ ≡ ocb_field s
    → r₂ ≡ ocb_field s
    → r₁ ≡ r₂
field-of-determined s r₁ r₂ e0₁ e0₂ = e0₁ ∙ sym e0₂

pub advance-determined : (s : State) (code : ℕ) (r₁ r₂ : State)
    → r₁ ≡ ocb_step s code
    → r₂ ≡ ocb_step s code
    → r₁ ≡ r₂
advance-determined s code r₁ r₂ e0₁ e0₂ = e0₁ ∙ sym e0₂

pub after-determined : (s : State) (code : ℕ) (r₁ r₂ : State)
    → r₁ ≡ ocb_step (ocb_last s) code
    → r₂ ≡ ocb_step (ocb_last s) code
    → r₁ ≡ r₂
after-determined s code r₁ r₂ e0₁ e0₂ = e0₁ ∙ sym e0₂

pub row-of-determined : (s : State) (r₁ r₂ : Row)
    → r₁ ≡ ocb_row s
    → r₂ ≡ ocb_row s
    → r₁ ≡ r₂
row-of-determined s r₁ r₂ e0₁ e0₂ = e0₁ ∙ sym e0₂
