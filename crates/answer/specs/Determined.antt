-- Two results of a public call of this crate cannot differ: for equal inputs, answers and lent buffers that meet the contract are equal. Proved.
-- Written by tests/determined from the contracts in src/.
use Rattle.answer.specs.Number.{number_of, number_of_answer}
use Rattle.answer.specs.Place.{at_in, nowhere, sf_in}
use Rattle.answer.specs.declared.Fault.{Fault}
use Rattle.answer.specs.declared.Place.{Place}
use Rattle.answer.specs.declared.Refusal.{Refusal}
use Rattle.std.proofs.Common.{sym, ◌∙◌}
use Rattle.std.specs.Prelude.{Option, Result, ℕ, ◌≡◌}

pub number-determined : (refusal : Refusal) (r₁ r₂ : ℕ)
    → r₁ ≡ number_of refusal
    → r₂ ≡ number_of refusal
    → r₁ ≡ r₂
number-determined refusal r₁ r₂ e0₁ e0₂ = e0₁ ∙ sym e0₂

pub number-of-determined : {T E : Type 0} (E-refusal_of : E → Refusal) (answer : Result T E) (r₁ r₂ : ℕ)
    → r₁ ≡ number_of_answer E-refusal_of answer
    → r₂ ≡ number_of_answer E-refusal_of answer
    → r₁ ≡ r₂
number-of-determined E-refusal_of answer r₁ r₂ e0₁ e0₂ = e0₁ ∙ sym e0₂

pub sf-in-determined : (place : Option Place) (r₁ r₂ : ℕ)
    → r₁ ≡ sf_in place
    → r₂ ≡ sf_in place
    → r₁ ≡ r₂
sf-in-determined place r₁ r₂ e0₁ e0₂ = e0₁ ∙ sym e0₂

pub at-in-determined : (place : Option Place) (r₁ r₂ : ℕ)
    → r₁ ≡ at_in place
    → r₂ ≡ at_in place
    → r₁ ≡ r₂
at-in-determined place r₁ r₂ e0₁ e0₂ = e0₁ ∙ sym e0₂

pub refuses-refusal-determined : {Self : Type 0} (Self-refusal_of : Self → Refusal) (self : Self) (r₁ r₂ : Refusal)
    → r₁ ≡ Self-refusal_of self
    → r₂ ≡ Self-refusal_of self
    → r₁ ≡ r₂
refuses-refusal-determined Self-refusal_of self r₁ r₂ e0₁ e0₂ = e0₁ ∙ sym e0₂

pub fault-from-determined : (why : Refusal) (r₁ r₂ : Fault)
    → r₁ ≡ nowhere why
    → r₂ ≡ nowhere why
    → r₁ ≡ r₂
fault-from-determined why r₁ r₂ e0₁ e0₂ = e0₁ ∙ sym e0₂
