-- Two results of a public call of this crate cannot differ: for equal inputs, answers and lent buffers that meet the contract are equal. Proved.
-- Written by tests/determined from the contracts in src/.
use Rattle.book.specs.declared.Book.{Book}
use Rattle.kept.specs.Kept.{answer_of, left_by, out_after, read_kept, written}
use Rattle.kept.specs.Results.{ReadKept, Written}
use Rattle.std.proofs.Common.{sym, ◌∙◌}
use Rattle.std.specs.Prelude.{List, ℕ, ◌≡◌}

pub write-kept-determined : (book : Book) (bytes out : List ℕ) (r₁ r₂ : Written) (out₁ out₂ : List ℕ)
    → r₁ ≡ written book bytes out
    → r₂ ≡ written book bytes out
    → out₁ ≡ out_after book bytes out
    → out₂ ≡ out_after book bytes out
    → (r₁ ≡ r₂) × (out₁ ≡ out₂)
write-kept-determined book bytes out r₁ r₂ out₁ out₂ e0₁ e0₂ e1₁ e1₂ = (e0₁ ∙ sym e0₂, e1₁ ∙ sym e1₂)

pub read-kept-determined : (kept bytes : List ℕ) (r₁ r₂ : ReadKept) (bytes₁ bytes₂ : List ℕ)
    → r₁ ≡ answer_of (read_kept kept bytes)
    → r₂ ≡ answer_of (read_kept kept bytes)
    → bytes₁ ≡ left_by (read_kept kept bytes) bytes
    → bytes₂ ≡ left_by (read_kept kept bytes) bytes
    → (r₁ ≡ r₂) × (bytes₁ ≡ bytes₂)
read-kept-determined kept bytes r₁ r₂ bytes₁ bytes₂ e0₁ e0₂ e1₁ e1₂ = (e0₁ ∙ sym e0₂, e1₁ ∙ sym e1₂)
