-- Two results of a public call of this crate cannot differ: for equal inputs, answers and lent buffers that meet the contract are equal. Proved.
-- Written by tests/determined from the contracts in src/.
use Rattle.std.specs.Prelude.{◌%◌, ℕ, Bool, ◌≡◌}
use Rattle.fields.specs.Columns.{numbers_of}
use Rattle.fields.specs.Fields.{line_of, sf}
use Rattle.fields.specs.Packed.{packed_line, refuses}
use Rattle.fields.specs.declared.Numbers.{Numbers}
use Rattle.layout.specs.declared.Field.{Field}
use Rattle.std.proofs.Common.{◌∙◌, sym}

pub sf-determined : (number : ℕ) (r₁ r₂ : Field)
    → r₁ ≡ sf number
    → r₂ ≡ sf number
    → r₁ ≡ r₂
sf-determined number r₁ r₂ e0₁ e0₂ = e0₁ ∙ sym e0₂

pub line-of-determined : (number : ℕ) (r₁ r₂ : Numbers)
    → r₁ ≡ numbers_of (line_of number)
    → r₂ ≡ numbers_of (line_of number)
    → r₁ ≡ r₂
line-of-determined number r₁ r₂ e0₁ e0₂ = e0₁ ∙ sym e0₂

pub line-determined : (number : ℕ) (r₁ r₂ : ℕ)
    → r₁ ≡ packed_line number
    → r₂ ≡ packed_line number
    → r₁ ≡ r₂
line-determined number r₁ r₂ e0₁ e0₂ = e0₁ ∙ sym e0₂

pub width-determined : (line : ℕ) (r₁ r₂ : ℕ)
    → r₁ ≡ line % 256
    → r₂ ≡ line % 256
    → r₁ ≡ r₂
width-determined line r₁ r₂ e0₁ e0₂ = e0₁ ∙ sym e0₂

pub refuses-determined : (line code : ℕ) (r₁ r₂ : Bool)
    → r₁ ≡ refuses line code
    → r₂ ≡ refuses line code
    → r₁ ≡ r₂
refuses-determined line code r₁ r₂ e0₁ e0₂ = e0₁ ∙ sym e0₂
