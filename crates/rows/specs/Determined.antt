-- Two results of a public call of this crate cannot differ: for equal inputs, answers and lent buffers that meet the contract are equal. Proved.
-- Written by tests/determined from the contracts in src/.
use Rattle.std.specs.Prelude.{ℕ, set, List, ◌≡◌}
use Rattle.rows.specs.Puts.{onward}
use Rattle.rows.specs.Rows.{no_row, one_row}
use Rattle.rows.specs.declared.Row.{Row}
use Rattle.std.proofs.Common.{◌∙◌, sym}

pub none-determined : (r₁ r₂ : Row)
    → r₁ ≡ no_row
    → r₂ ≡ no_row
    → r₁ ≡ r₂
none-determined r₁ r₂ e0₁ e0₂ = e0₁ ∙ sym e0₂

pub one-determined : (group : ℕ) (r₁ r₂ : Row)
    → r₁ ≡ one_row group
    → r₂ ≡ one_row group
    → r₁ ≡ r₂
one-determined group r₁ r₂ e0₁ e0₂ = e0₁ ∙ sym e0₂

pub store-determined : (sheet : List ℕ) (at code : ℕ) (sheet₁ sheet₂ : List ℕ)
    → sheet₁ ≡ set sheet at code
    → sheet₂ ≡ set sheet at code
    → sheet₁ ≡ sheet₂
store-determined sheet at code sheet₁ sheet₂ e0₁ e0₂ = e0₁ ∙ sym e0₂

pub counted-determined : (pos width : ℕ) (r₁ r₂ : ℕ)
    → r₁ ≡ onward pos width
    → r₂ ≡ onward pos width
    → r₁ ≡ r₂
counted-determined pos width r₁ r₂ e0₁ e0₂ = e0₁ ∙ sym e0₂
