-- Two results of a public call of this crate cannot differ: for equal inputs, answers and lent buffers that meet the contract are equal. Proved.
-- Written by tests/determined from the contracts in src/.
use Rattle.std.specs.Prelude.{ℕ, List, ◌≡◌}
use Rattle.text.specs.Text.{decimal, end_after, out_after, said_after, waiting_after}
use Rattle.std.proofs.Common.{◌∙◌, sym}

pub put-determined : (out : List ℕ) (at : ℕ) (text : List ℕ) (r₁ r₂ : ℕ) (out₁ out₂ : List ℕ)
    → r₁ ≡ end_after out at text
    → r₂ ≡ end_after out at text
    → out₁ ≡ out_after out at text
    → out₂ ≡ out_after out at text
    → (r₁ ≡ r₂) × (out₁ ≡ out₂)
put-determined out at text r₁ r₂ out₁ out₂ e0₁ e0₂ e1₁ e1₂ = (e0₁ ∙ sym e0₂, e1₁ ∙ sym e1₂)

pub say-determined : (out : List ℕ) (at : ℕ) (text : List ℕ) (r₁ r₂ : ℕ) (out₁ out₂ : List ℕ)
    → r₁ ≡ waiting_after out at text
    → r₂ ≡ waiting_after out at text
    → out₁ ≡ said_after out at text
    → out₂ ≡ said_after out at text
    → (r₁ ≡ r₂) × (out₁ ≡ out₂)
say-determined out at text r₁ r₂ out₁ out₂ e0₁ e0₂ e1₁ e1₂ = (e0₁ ∙ sym e0₂, e1₁ ∙ sym e1₂)

pub put-number-determined : (out : List ℕ) (at n : ℕ) (r₁ r₂ : ℕ) (out₁ out₂ : List ℕ)
    → r₁ ≡ end_after out at (decimal n)
    → r₂ ≡ end_after out at (decimal n)
    → out₁ ≡ out_after out at (decimal n)
    → out₂ ≡ out_after out at (decimal n)
    → (r₁ ≡ r₂) × (out₁ ≡ out₂)
put-number-determined out at n r₁ r₂ out₁ out₂ e0₁ e0₂ e1₁ e1₂ = (e0₁ ∙ sym e0₂, e1₁ ∙ sym e1₂)

pub say-number-determined : (out : List ℕ) (at n : ℕ) (r₁ r₂ : ℕ) (out₁ out₂ : List ℕ)
    → r₁ ≡ waiting_after out at (decimal n)
    → r₂ ≡ waiting_after out at (decimal n)
    → out₁ ≡ said_after out at (decimal n)
    → out₂ ≡ said_after out at (decimal n)
    → (r₁ ≡ r₂) × (out₁ ≡ out₂)
say-number-determined out at n r₁ r₂ out₁ out₂ e0₁ e0₂ e1₁ e1₂ = (e0₁ ∙ sym e0₂, e1₁ ∙ sym e1₂)
