-- Two results of a public call of this crate cannot differ: for equal inputs, answers and lent buffers that meet the contract are equal. Proved.
-- Written by tests/determined from the contracts in src/.
use Rattle.bits.specs.Part.{PartOf, part-determined}
use Rattle.frame.specs.Check.{checked, number_of_checked, payload_in, payload_of, place_in, place_of}
use Rattle.frame.specs.Results.{Written}
use Rattle.frame.specs.Write.{out_after, written}
use Rattle.frame.specs.declared.Checked.{Checked}
use Rattle.frame.specs.declared.Frame.{Frame}
use Rattle.frame.specs.declared.Parts.{Parts}
use Rattle.std.proofs.Common.{sym, ◌∙◌}
use Rattle.std.specs.Borrow.{Bor}
use Rattle.std.specs.Prelude.{List, ℕ, ◌≡◌}

pub check-determined : (bytes : List ℕ) (r₁ r₂ : Checked)
    → r₁ ≡ checked bytes
    → r₂ ≡ checked bytes
    → r₁ ≡ r₂
check-determined bytes r₁ r₂ e0₁ e0₂ = e0₁ ∙ sym e0₂

pub payload-in-determined : {X : Type 0} {bytes-part part₁ part₂ : Bor X} → (bytes : List ℕ) (frame : Frame) (r₁ r₂ : List ℕ)
    → r₁ ≡ payload_in frame bytes
    → r₂ ≡ payload_in frame bytes
    → PartOf part₁ bytes-part (place_in frame bytes)
    → PartOf part₂ bytes-part (place_in frame bytes)
    → (r₁ ≡ r₂) × (part₁.ref_ptr.0 ≡ part₂.ref_ptr.0) × (part₁.ref_ptr.1 ≡ part₂.ref_ptr.1)
payload-in-determined bytes frame r₁ r₂ e0₁ e0₂ e1₁ e1₂ = (e0₁ ∙ sym e0₂, (part-determined e1₁ e1₂).0, (part-determined e1₁ e1₂).1)

pub payload-determined : {X : Type 0} {bytes-part part₁ part₂ : Bor X} → (bytes : List ℕ) (r₁ r₂ : List ℕ)
    → r₁ ≡ payload_of bytes
    → r₂ ≡ payload_of bytes
    → PartOf part₁ bytes-part (place_of bytes)
    → PartOf part₂ bytes-part (place_of bytes)
    → (r₁ ≡ r₂) × (part₁.ref_ptr.0 ≡ part₂.ref_ptr.0) × (part₁.ref_ptr.1 ≡ part₂.ref_ptr.1)
payload-determined bytes r₁ r₂ e0₁ e0₂ e1₁ e1₂ = (e0₁ ∙ sym e0₂, (part-determined e1₁ e1₂).0, (part-determined e1₁ e1₂).1)

pub number-determined : (checked : Checked) (r₁ r₂ : ℕ)
    → r₁ ≡ number_of_checked checked
    → r₂ ≡ number_of_checked checked
    → r₁ ≡ r₂
number-determined checked r₁ r₂ e0₁ e0₂ = e0₁ ∙ sym e0₂

pub write-determined : (parts : Parts) (payload out : List ℕ) (r₁ r₂ : Written) (out₁ out₂ : List ℕ)
    → r₁ ≡ written parts payload out
    → r₂ ≡ written parts payload out
    → out₁ ≡ out_after parts payload out
    → out₂ ≡ out_after parts payload out
    → (r₁ ≡ r₂) × (out₁ ≡ out₂)
write-determined parts payload out r₁ r₂ out₁ out₂ e0₁ e0₂ e1₁ e1₂ = (e0₁ ∙ sym e0₂, e1₁ ∙ sym e1₂)
