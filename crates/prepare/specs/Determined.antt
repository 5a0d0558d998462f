-- Two results of a public call of this crate cannot differ: for equal inputs, answers and lent buffers that meet the contract are equal. Proved.
-- Written by tests/determined from the contracts in src/.
use Rattle.std.specs.Prelude.{ℕ, List, ◌≡◌}
use Rattle.desk.specs.declared.Desk.{Desk}
use Rattle.prepare.specs.Prepare.{by_call, by_finish, hands, number_of_said, results}
use Rattle.prepare.specs.declared.Answer.{Answer}
use Rattle.prepare.specs.declared.Said.{Said}
use Rattle.stream.specs.declared.Tray.{Tray}
use Rattle.std.proofs.Common.{◌∙◌, ap, sym}

pub number-determined : (said : Said) (r₁ r₂ : ℕ)
    → r₁ ≡ number_of_said said
    → r₂ ≡ number_of_said said
    → r₁ ≡ r₂
number-determined said r₁ r₂ e0₁ e0₂ = e0₁ ∙ sym e0₂

pub call-determined : (bytes : List ℕ) (tray : Tray) (desk : Desk) (live run log input : List ℕ) (second : ℕ) (r₁ r₂ : Answer) (bytes₁ bytes₂ : List ℕ) (live₁ live₂ : List ℕ) (run₁ run₂ : List ℕ) (log₁ log₂ : List ℕ)
    → results r₁ bytes₁ live₁ run₁ log₁ ≡ by_call (hands bytes tray desk live run log second) input
    → results r₂ bytes₂ live₂ run₂ log₂ ≡ by_call (hands bytes tray desk live run log second) input
    → (r₁ ≡ r₂) × (bytes₁ ≡ bytes₂) × (live₁ ≡ live₂) × (run₁ ≡ run₂) × (log₁ ≡ log₂)
call-determined bytes tray desk live run log input second r₁ r₂ bytes₁ bytes₂ live₁ live₂ run₁ run₂ log₁ log₂ e0₁ e0₂ = (ap (λ x. x.answer) (e0₁ ∙ sym e0₂), ap (λ x. x.bytes) (e0₁ ∙ sym e0₂), ap (λ x. x.live) (e0₁ ∙ sym e0₂), ap (λ x. x.run) (e0₁ ∙ sym e0₂), ap (λ x. x.log) (e0₁ ∙ sym e0₂))

pub finish-determined : (bytes : List ℕ) (tray : Tray) (desk : Desk) (live run log : List ℕ) (second : ℕ) (r₁ r₂ : Answer) (bytes₁ bytes₂ : List ℕ) (live₁ live₂ : List ℕ) (run₁ run₂ : List ℕ) (log₁ log₂ : List ℕ)
    → results r₁ bytes₁ live₁ run₁ log₁ ≡ by_finish (hands bytes tray desk live run log second)
    → results r₂ bytes₂ live₂ run₂ log₂ ≡ by_finish (hands bytes tray desk live run log second)
    → (r₁ ≡ r₂) × (bytes₁ ≡ bytes₂) × (live₁ ≡ live₂) × (run₁ ≡ run₂) × (log₁ ≡ log₂)
finish-determined bytes tray desk live run log second r₁ r₂ bytes₁ bytes₂ live₁ live₂ run₁ run₂ log₁ log₂ e0₁ e0₂ = (ap (λ x. x.answer) (e0₁ ∙ sym e0₂), ap (λ x. x.bytes) (e0₁ ∙ sym e0₂), ap (λ x. x.live) (e0₁ ∙ sym e0₂), ap (λ x. x.run) (e0₁ ∙ sym e0₂), ap (λ x. x.log) (e0₁ ∙ sym e0₂))
