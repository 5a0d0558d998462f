-- Two results of a public call of this crate cannot differ: for equal inputs, answers and lent buffers that meet the contract are equal. Proved.
-- Written by tests/determined from the contracts in src/.
use Rattle.bits.specs.Bits.{Bytes, to_bits}
use Rattle.bits.specs.Laws.{to_bits-injective}
use Rattle.sheet.specs.Results.{ReadAnswer, WriteAnswer}
use Rattle.sheet.specs.Sheet.{judged, judged_sheet, out_after, read_answer, sheet_after, write_answer}
use Rattle.std.proofs.Common.{sym, ◌∙◌}
use Rattle.std.specs.Prelude.{List, ℕ, ◌≡◌}

pub judge-determined : (kind subtype : ℕ) (payload : List ℕ) (r₁ r₂ : ReadAnswer)
    → r₁ ≡ judged kind subtype payload
    → r₂ ≡ judged kind subtype payload
    → r₁ ≡ r₂
judge-determined kind subtype payload r₁ r₂ e0₁ e0₂ = e0₁ ∙ sym e0₂

pub read-determined : (kind subtype : ℕ) (payload sheet : List ℕ) (r₁ r₂ : ReadAnswer) (sheet₁ sheet₂ : List ℕ)
    → r₁ ≡ read_answer kind subtype payload sheet
    → r₂ ≡ read_answer kind subtype payload sheet
    → sheet₁ ≡ sheet_after kind subtype payload sheet
    → sheet₂ ≡ sheet_after kind subtype payload sheet
    → (r₁ ≡ r₂) × (sheet₁ ≡ sheet₂)
read-determined kind subtype payload sheet r₁ r₂ sheet₁ sheet₂ e0₁ e0₂ e1₁ e1₂ = (e0₁ ∙ sym e0₂, e1₁ ∙ sym e1₂)

pub judge-sheet-determined : (kind subtype : ℕ) (sheet : List ℕ) (r₁ r₂ : WriteAnswer)
    → r₁ ≡ judged_sheet kind subtype sheet
    → r₂ ≡ judged_sheet kind subtype sheet
    → r₁ ≡ r₂
judge-sheet-determined kind subtype sheet r₁ r₂ e0₁ e0₂ = e0₁ ∙ sym e0₂

pub write-determined : (kind subtype : ℕ) (sheet out : List ℕ) (r₁ r₂ : WriteAnswer) (out₁ out₂ : List ℕ)
    → r₁ ≡ write_answer kind subtype sheet out
    → r₂ ≡ write_answer kind subtype sheet out
    → Bytes out₁
    → Bytes out₂
    → to_bits out₁ ≡ out_after kind subtype sheet out
    → to_bits out₂ ≡ out_after kind subtype sheet out
    → (r₁ ≡ r₂) × (out₁ ≡ out₂)
write-determined kind subtype sheet out r₁ r₂ out₁ out₂ e0₁ e0₂ e1-bytes₁ e1-bytes₂ e1₁ e1₂ = (e0₁ ∙ sym e0₂, to_bits-injective e1-bytes₁ e1-bytes₂ (e1₁ ∙ sym e1₂))
