-- Two results of a public call of this crate cannot differ: for equal inputs, answers and lent buffers that meet the contract are equal. Proved.
-- Written by tests/determined from the contracts in src/.
use Rattle.std.specs.Prelude.{ℕ, List, ◌≡◌}
use Rattle.exportprepare.specs.Prepares.{call_leaves, call_number, finish_leaves, finish_number, lends}
use Rattle.std.proofs.Common.{◌∙◌, ap, sym}

pub prepare-call-determined : (bytes tray desk live run log input : List ℕ) (second : ℕ) (told header : List ℕ) (r₁ r₂ : ℕ) (bytes₁ bytes₂ : List ℕ) (tray₁ tray₂ : List ℕ) (desk₁ desk₂ : List ℕ) (live₁ live₂ : List ℕ) (run₁ run₂ : List ℕ) (log₁ log₂ : List ℕ) (told₁ told₂ : List ℕ) (header₁ header₂ : List ℕ)
    → r₁ ≡ call_number (lends bytes tray desk live run log told header second) input
    → r₂ ≡ call_number (lends bytes tray desk live run log told header second) input
    → lends bytes₁ tray₁ desk₁ live₁ run₁ log₁ told₁ header₁ second ≡ call_leaves (lends bytes tray desk live run log told header second) input
    → lends bytes₂ tray₂ desk₂ live₂ run₂ log₂ told₂ header₂ second ≡ call_leaves (lends bytes tray desk live run log told header second) input
    → (r₁ ≡ r₂) × (bytes₁ ≡ bytes₂) × (tray₁ ≡ tray₂) × (desk₁ ≡ desk₂) × (live₁ ≡ live₂) × (run₁ ≡ run₂) × (log₁ ≡ log₂) × (told₁ ≡ told₂) × (header₁ ≡ header₂)
prepare-call-determined bytes tray desk live run log input second told header r₁ r₂ bytes₁ bytes₂ tray₁ tray₂ desk₁ desk₂ live₁ live₂ run₁ run₂ log₁ log₂ told₁ told₂ header₁ header₂ e0₁ e0₂ e1₁ e1₂ = (e0₁ ∙ sym e0₂, ap (λ x. x.bytes) (e1₁ ∙ sym e1₂), ap (λ x. x.tray) (e1₁ ∙ sym e1₂), ap (λ x. x.desk) (e1₁ ∙ sym e1₂), ap (λ x. x.live) (e1₁ ∙ sym e1₂), ap (λ x. x.run) (e1₁ ∙ sym e1₂), ap (λ x. x.log) (e1₁ ∙ sym e1₂), ap (λ x. x.told) (e1₁ ∙ sym e1₂), ap (λ x. x.header) (e1₁ ∙ sym e1₂))

pub prepare-finish-determined : (bytes tray desk live run log : List ℕ) (second : ℕ) (told header : List ℕ) (r₁ r₂ : ℕ) (bytes₁ bytes₂ : List ℕ) (tray₁ tray₂ : List ℕ) (desk₁ desk₂ : List ℕ) (live₁ live₂ : List ℕ) (run₁ run₂ : List ℕ) (log₁ log₂ : List ℕ) (told₁ told₂ : List ℕ) (header₁ header₂ : List ℕ)
    → r₁ ≡ finish_number (lends bytes tray desk live run log told header second)
    → r₂ ≡ finish_number (lends bytes tray desk live run log told header second)
    → lends bytes₁ tray₁ desk₁ live₁ run₁ log₁ told₁ header₁ second ≡ finish_leaves (lends bytes tray desk live run log told header second)
    → lends bytes₂ tray₂ desk₂ live₂ run₂ log₂ told₂ header₂ second ≡ finish_leaves (lends bytes tray desk live run log told header second)
    → (r₁ ≡ r₂) × (bytes₁ ≡ bytes₂) × (tray₁ ≡ tray₂) × (desk₁ ≡ desk₂) × (live₁ ≡ live₂) × (run₁ ≡ run₂) × (log₁ ≡ log₂) × (told₁ ≡ told₂) × (header₁ ≡ header₂)
prepare-finish-determined bytes tray desk live run log second told header r₁ r₂ bytes₁ bytes₂ tray₁ tray₂ desk₁ desk₂ live₁ live₂ run₁ run₂ log₁ log₂ told₁ told₂ header₁ header₂ e0₁ e0₂ e1₁ e1₂ = (e0₁ ∙ sym e0₂, ap (λ x. x.bytes) (e1₁ ∙ sym e1₂), ap (λ x. x.tray) (e1₁ ∙ sym e1₂), ap (λ x. x.desk) (e1₁ ∙ sym e1₂), ap (λ x. x.live) (e1₁ ∙ sym e1₂), ap (λ x. x.run) (e1₁ ∙ sym e1₂), ap (λ x. x.log) (e1₁ ∙ sym e1₂), ap (λ x. x.told) (e1₁ ∙ sym e1₂), ap (λ x. x.header) (e1₁ ∙ sym e1₂))
