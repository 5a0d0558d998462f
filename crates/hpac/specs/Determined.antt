-- Two results of a public call of this crate cannot differ: for equal inputs, answers and lent buffers that meet the contract are equal. Proved.
-- Written by tests/determined from the contracts in src/.
use Rattle.std.specs.Prelude.{ℕ, ◌≡◌}
use Rattle.hpac.specs.Hpac.{ionosphere_residual, troposphere_residual}
use Rattle.hpac.specs.Machine.{hpac_field, hpac_step}
use Rattle.hpac.specs.Rows.{hpac_last, hpac_row}
use Rattle.hpac.specs.Spans.{i_polynomial_bits, t_polynomial_bits}
use Rattle.hpac.specs.declared.State.{State}
use Rattle.layout.specs.declared.Field.{Field}
use Rattle.rows.specs.declared.Row.{Row}
use Rattle.std.proofs.Common.{◌∙◌, sym}

pub field-of-determined : (s : State) (r₁ r₂ : Field)
    → r₁ ≡ hpac_field s
    → r₂ ≡ hpac_field s
    → r₁ ≡ r₂
field-of-determined s r₁ r₂ e0₁ e0₂ = e0₁ ∙ sym e0₂

pub advance-determined : (s : State) (code : ℕ) (r₁ r₂ : State)
    → r₁ ≡ hpac_step s code
    → r₂ ≡ hpac_step s code
    → r₁ ≡ r₂
advance-determined s code r₁ r₂ e0₁ e0₂ = e0₁ ∙ sym e0₂

pub after-determined : (s : State) (code : ℕ) (r₁ r₂ : State)
    → r₁ ≡ hpac_step (hpac_last s) code
    → r₂ ≡ hpac_step (hpac_last s) code
    → r₁ ≡ r₂
after-determined s code r₁ r₂ e0₁ e0₂ = e0₁ ∙ sym e0₂

pub row-of-determined : (s : State) (r₁ r₂ : Row)
    → r₁ ≡ hpac_row s
    → r₂ ≡ hpac_row s
    → r₁ ≡ r₂
row-of-determined s r₁ r₂ e0₁ e0₂ = e0₁ ∙ sym e0₂

pub t-polynomial-bits-determined : (size equation : ℕ) (r₁ r₂ : ℕ)
    → r₁ ≡ t_polynomial_bits size equation
    → r₂ ≡ t_polynomial_bits size equation
    → r₁ ≡ r₂
t-polynomial-bits-determined size equation r₁ r₂ e0₁ e0₂ = e0₁ ∙ sym e0₂

pub i-polynomial-bits-determined : (size equation : ℕ) (r₁ r₂ : ℕ)
    → r₁ ≡ i_polynomial_bits size equation
    → r₂ ≡ i_polynomial_bits size equation
    → r₁ ≡ r₂
i-polynomial-bits-determined size equation r₁ r₂ e0₁ e0₂ = e0₁ ∙ sym e0₂

pub t-residual-width-determined : (size : ℕ) (r₁ r₂ : ℕ)
    → r₁ ≡ (troposphere_residual size).width
    → r₂ ≡ (troposphere_residual size).width
    → r₁ ≡ r₂
t-residual-width-determined size r₁ r₂ e0₁ e0₂ = e0₁ ∙ sym e0₂

pub i-residual-width-determined : (size : ℕ) (r₁ r₂ : ℕ)
    → r₁ ≡ (ionosphere_residual size).width
    → r₂ ≡ (ionosphere_residual size).width
    → r₁ ≡ r₂
i-residual-width-determined size r₁ r₂ e0₁ e0₂ = e0₁ ∙ sym e0₂
