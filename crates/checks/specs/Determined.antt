-- Two results of a public call of this crate cannot differ: for equal inputs, answers and lent buffers that meet the contract are equal. Proved.
-- Written by tests/determined from the contracts in src/.
use Rattle.std.specs.Prelude.{ℕ, List, ◌≡◌}
use Rattle.checks.specs.Crc.{frame_crc, message_crc}
use Rattle.std.proofs.Common.{◌∙◌, sym}

pub frame-crc-determined : (a b c : ℕ) (r₁ r₂ : ℕ)
    → r₁ ≡ frame_crc a b c
    → r₂ ≡ frame_crc a b c
    → r₁ ≡ r₂
frame-crc-determined a b c r₁ r₂ e0₁ e0₂ = e0₁ ∙ sym e0₂

pub message-crc-determined : (check_type : ℕ) (s : List ℕ) (r₁ r₂ : ℕ)
    → r₁ ≡ message_crc check_type s
    → r₂ ≡ message_crc check_type s
    → r₁ ≡ r₂
message-crc-determined check_type s r₁ r₂ e0₁ e0₂ = e0₁ ∙ sym e0₂
