-- Two results of a public call of this crate cannot differ: for equal inputs, answers and lent buffers that meet the contract are equal. Proved.
-- Written by tests/determined from the contracts in src/.
use Rattle.std.specs.Prelude.{ℕ, List, ◌≡◌}
use Rattle.stream.specs.Tray.{call_answer, call_bytes, finish_answer, finish_bytes, fresh_tray, number_of_said}
use Rattle.stream.specs.declared.Answer.{Answer}
use Rattle.stream.specs.declared.Said.{Said}
use Rattle.stream.specs.declared.Tray.{Tray}
use Rattle.std.proofs.Common.{◌∙◌, sym}

pub fresh-determined : (r₁ r₂ : Tray)
    → r₁ ≡ fresh_tray
    → r₂ ≡ fresh_tray
    → r₁ ≡ r₂
fresh-determined r₁ r₂ e0₁ e0₂ = e0₁ ∙ sym e0₂

pub call-determined : (bytes : List ℕ) (tray : Tray) (input : List ℕ) (r₁ r₂ : Answer) (bytes₁ bytes₂ : List ℕ)
    → r₁ ≡ call_answer bytes tray input
    → r₂ ≡ call_answer bytes tray input
    → bytes₁ ≡ call_bytes bytes tray input
    → bytes₂ ≡ call_bytes bytes tray input
    → (r₁ ≡ r₂) × (bytes₁ ≡ bytes₂)
call-determined bytes tray input r₁ r₂ bytes₁ bytes₂ e0₁ e0₂ e1₁ e1₂ = (e0₁ ∙ sym e0₂, e1₁ ∙ sym e1₂)

pub finish-determined : (bytes : List ℕ) (tray : Tray) (r₁ r₂ : Answer) (bytes₁ bytes₂ : List ℕ)
    → r₁ ≡ finish_answer bytes tray
    → r₂ ≡ finish_answer bytes tray
    → bytes₁ ≡ finish_bytes bytes tray
    → bytes₂ ≡ finish_bytes bytes tray
    → (r₁ ≡ r₂) × (bytes₁ ≡ bytes₂)
finish-determined bytes tray r₁ r₂ bytes₁ bytes₂ e0₁ e0₂ e1₁ e1₂ = (e0₁ ∙ sym e0₂, e1₁ ∙ sym e1₂)

pub number-determined : (said : Said) (r₁ r₂ : ℕ)
    → r₁ ≡ number_of_said said
    → r₂ ≡ number_of_said said
    → r₁ ≡ r₂
number-determined said r₁ r₂ e0₁ e0₂ = e0₁ ∙ sym e0₂
