-- Two results of a public call of this crate cannot differ: for equal inputs, answers and lent buffers that meet the contract are equal. Proved.
-- Written by tests/determined from the contracts in src/.
use Rattle.std.specs.Prelude.{ℕ, ◌≡◌}
use Rattle.layout.specs.declared.Field.{Field}
use Rattle.message.specs.Machine.{field_of, start_of, step_of}
use Rattle.message.specs.Messages.{constellation_for}
use Rattle.message.specs.Rows.{last_of, row_of}
use Rattle.message.specs.Results.{Start}
use Rattle.message.specs.declared.State.{State}
use Rattle.message.specs.Results.{Subtype}
use Rattle.rows.specs.declared.Row.{Row}
use Rattle.std.proofs.Common.{◌∙◌, sym}

pub field-of-determined : (s : State) (r₁ r₂ : Field)
    → r₁ ≡ field_of s
    → r₂ ≡ field_of s
    → r₁ ≡ r₂
field-of-determined s r₁ r₂ e0₁ e0₂ = e0₁ ∙ sym e0₂

pub advance-determined : (s : State) (code : ℕ) (r₁ r₂ : State)
    → r₁ ≡ step_of s code
    → r₂ ≡ step_of s code
    → r₁ ≡ r₂
advance-determined s code r₁ r₂ e0₁ e0₂ = e0₁ ∙ sym e0₂

pub constellation-of-determined : (subtype : ℕ) (r₁ r₂ : Subtype)
    → r₁ ≡ constellation_for subtype
    → r₂ ≡ constellation_for subtype
    → r₁ ≡ r₂
constellation-of-determined subtype r₁ r₂ e0₁ e0₂ = e0₁ ∙ sym e0₂

pub start-of-determined : (kind subtype : ℕ) (r₁ r₂ : Start)
    → r₁ ≡ start_of kind subtype
    → r₂ ≡ start_of kind subtype
    → r₁ ≡ r₂
start-of-determined kind subtype r₁ r₂ e0₁ e0₂ = e0₁ ∙ sym e0₂

pub row-of-determined : (s : State) (r₁ r₂ : Row)
    → r₁ ≡ row_of s
    → r₂ ≡ row_of s
    → r₁ ≡ r₂
row-of-determined s r₁ r₂ e0₁ e0₂ = e0₁ ∙ sym e0₂

pub after-determined : (s : State) (code : ℕ) (r₁ r₂ : State)
    → r₁ ≡ step_of (last_of s) code
    → r₂ ≡ step_of (last_of s) code
    → r₁ ≡ r₂
after-determined s code r₁ r₂ e0₁ e0₂ = e0₁ ∙ sym e0₂
