-- Two results of a public call of this crate cannot differ: for equal inputs, answers and lent buffers that meet the contract are equal. Proved.
-- Written by tests/determined from the contracts in src/.
use Rattle.std.proofs.Common.{sym, ◌∙◌}
use Rattle.std.specs.Prelude.{ℕ, ◌≡◌}
use Rattle.values.specs.Results.{CountAnswer, OrbitAnswer, ResidualAnswer, YawAnswer}
use Rattle.values.specs.Values.{count_of, number_of_value, orbit_of, residual_of, value_of, yaw_of}
use Rattle.values.specs.declared.Value.{Value}

pub value-of-determined : (sf code : ℕ) (r₁ r₂ : Value)
    → r₁ ≡ value_of sf code
    → r₂ ≡ value_of sf code
    → r₁ ≡ r₂
value-of-determined sf code r₁ r₂ e0₁ e0₂ = e0₁ ∙ sym e0₂

pub residual-of-determined : (sf code : ℕ) (r₁ r₂ : ResidualAnswer)
    → r₁ ≡ residual_of sf code
    → r₂ ≡ residual_of sf code
    → r₁ ≡ r₂
residual-of-determined sf code r₁ r₂ e0₁ e0₂ = e0₁ ∙ sym e0₂

pub yaw-of-determined : (code : ℕ) (r₁ r₂ : YawAnswer)
    → r₁ ≡ yaw_of code
    → r₂ ≡ yaw_of code
    → r₁ ≡ r₂
yaw-of-determined code r₁ r₂ e0₁ e0₂ = e0₁ ∙ sym e0₂

pub count-of-determined : (sf code : ℕ) (r₁ r₂ : CountAnswer)
    → r₁ ≡ count_of sf code
    → r₂ ≡ count_of sf code
    → r₁ ≡ r₂
count-of-determined sf code r₁ r₂ e0₁ e0₂ = e0₁ ∙ sym e0₂

pub orbit-of-determined : (radial along_track cross_track : ℕ) (r₁ r₂ : OrbitAnswer)
    → r₁ ≡ orbit_of radial along_track cross_track
    → r₂ ≡ orbit_of radial along_track cross_track
    → r₁ ≡ r₂
orbit-of-determined radial along_track cross_track r₁ r₂ e0₁ e0₂ = e0₁ ∙ sym e0₂

pub number-of-value-determined : (answer : Value) (r₁ r₂ : ℕ)
    → r₁ ≡ number_of_value answer
    → r₂ ≡ number_of_value answer
    → r₁ ≡ r₂
number-of-value-determined answer r₁ r₂ e0₁ e0₂ = e0₁ ∙ sym e0₂
