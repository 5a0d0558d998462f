-- Two results of a public call of this crate cannot differ: for equal inputs, answers and lent buffers that meet the contract are equal. Proved.
-- Written by tests/determined from the contracts in src/.
use Rattle.std.specs.Prelude.{ℕ, Bool, List, ◌≡◌}
use Rattle.bits.specs.Bits.{Bytes, got, leaves, there, to_bits}
use Rattle.bits.specs.Laws.{to_bits-injective}
use Rattle.std.proofs.Common.{◌∙◌, sym}

pub get-determined : (s : List ℕ) (pos width : ℕ) (r₁ r₂ : ℕ)
    → r₁ ≡ got s pos width
    → r₂ ≡ got s pos width
    → r₁ ≡ r₂
get-determined s pos width r₁ r₂ e0₁ e0₂ = e0₁ ∙ sym e0₂

pub put-determined : (s : List ℕ) (pos width code : ℕ) (r₁ r₂ : Bool) (s₁ s₂ : List ℕ)
    → r₁ ≡ there s pos width
    → r₂ ≡ there s pos width
    → Bytes s₁
    → Bytes s₂
    → to_bits s₁ ≡ leaves s pos width code
    → to_bits s₂ ≡ leaves s pos width code
    → (r₁ ≡ r₂) × (s₁ ≡ s₂)
put-determined s pos width code r₁ r₂ s₁ s₂ e0₁ e0₂ e1-bytes₁ e1-bytes₂ e1₁ e1₂ = (e0₁ ∙ sym e0₂, to_bits-injective e1-bytes₁ e1-bytes₂ (e1₁ ∙ sym e1₂))
