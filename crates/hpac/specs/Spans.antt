-- Serves proofs: how many bits a polynomial takes, by its model and its fields (document 000, tables 6.17, 6.18, 6.21 and 6.22).
use Rattle.std.specs.Prelude.{◌≡◌, Bool, true, false, ℕ, ◌+◌, ◌*◌, ◌≤◌, eqb, leb}
use Rattle.std.proofs.Common.{arith, lit≤}
use borrow.Author.Tests.{eq-eqb, ne_eqb, le-leb, lt-leb}
use Rattle.layout.specs.declared.Field.{Field}
use Rattle.layout.specs.Layout.{pick}
use Rattle.fields.specs.Fields.{table, find, line_of, sf}
use Rattle.hpac.specs.Hpac.{troposphere_constant, troposphere_linear, troposphere_product, troposphere_residual, ionosphere_constant, ionosphere_linear, ionosphere_product, ionosphere_residual}

abbrev pub polynomial_bits : (constant linear product : Field) → (equation : ℕ) → ℕ
polynomial_bits constant linear product equation =
    constant.width + (pick (leb 1 equation) (linear.width + linear.width) 0 + pick (leb 2 equation) product.width 0)

unfoldable pub t_polynomial_bits : (size equation : ℕ) → ℕ
t_polynomial_bits size equation = polynomial_bits (troposphere_constant size) (troposphere_linear size) (troposphere_product size) equation

unfoldable pub i_polynomial_bits : (size equation : ℕ) → ℕ
i_polynomial_bits size equation = polynomial_bits (ionosphere_constant size) (ionosphere_linear size) (ionosphere_product size) equation

-- ---- the returns of the code

abbrev coefficients : (equation linear product : ℕ) → ℕ
coefficients equation linear product = linear + (pick (leb 1 equation) (linear + linear) 0 + pick (leb 2 equation) product 0)

pub model-0 : (equation linear product : ℕ) → equation ≡ 0 → linear ≡ coefficients equation linear product
model-0 equation linear product e = rw (lt-leb 1 equation (omega arith), lt-leb 2 equation (omega arith)) (omega arith)

pub model-1 : (equation linear product : ℕ) → equation ≡ 1 → 3 * linear ≡ coefficients equation linear product
model-1 equation linear product e = rw (le-leb 1 equation (omega arith), lt-leb 2 equation (omega arith)) (omega arith)

pub model-2 : (equation linear product : ℕ) → (equation ≡ 0 → ⊥) → (equation ≡ 1 → ⊥) → 3 * linear + product ≡ coefficients equation linear product
model-2 equation linear product n m = rw (le-leb 1 equation (omega arith), le-leb 2 equation (omega arith)) (omega arith)

pick-le : (b : Bool) (x : ℕ) → pick b x 0 ≤ x
pick-le true x = omega arith
pick-le false x = omega arith

bits-few : (equation linear product : ℕ) → linear ≤ 14 → product ≤ 15 → coefficients equation linear product ≤ 57
bits-few equation linear product h k = omega (arith, pick-le (leb 1 equation) (linear + linear), pick-le (leb 2 equation) product)

module _ (size equation : ℕ) {r : ℕ} where
  pub t-small : size ≡ 0 → r ≡ coefficients equation 7 9 → r ≡ t_polynomial_bits size equation
  unfolding t_polynomial_bits sf line_of find table
  t-small e h = rw (eq-eqb size 0 e) h

  pub t-large : (size ≡ 0 → ⊥) → r ≡ coefficients equation 9 11 → r ≡ t_polynomial_bits size equation
  unfolding t_polynomial_bits sf line_of find table
  t-large e h = rw (ne_eqb size 0 e) h

  pub i-small : size ≡ 0 → r ≡ coefficients equation 12 13 → r ≡ i_polynomial_bits size equation
  unfolding i_polynomial_bits sf line_of find table
  i-small e h = rw (eq-eqb size 0 e) h

  pub i-large : (size ≡ 0 → ⊥) → r ≡ coefficients equation 14 15 → r ≡ i_polynomial_bits size equation
  unfolding i_polynomial_bits sf line_of find table
  i-large e h = rw (ne_eqb size 0 e) h

-- a polynomial has 57 bits at most
pub t-few : (size equation : ℕ) → t_polynomial_bits size equation ≤ 57
unfolding t_polynomial_bits sf line_of find table
t-few size equation = go (eqb size 0)
  where
    go : (b : Bool) → polynomial_bits (pick b (sf 45) (sf 48)) (pick b (sf 46) (sf 49)) (pick b (sf 47) (sf 50)) equation ≤ 57
    go true = bits-few equation 7 9 (lit≤ tt) (lit≤ tt)
    go false = bits-few equation 9 11 (lit≤ tt) (lit≤ tt)

pub i-few : (size equation : ℕ) → i_polynomial_bits size equation ≤ 57
unfolding i_polynomial_bits sf line_of find table
i-few size equation = go (eqb size 0)
  where
    go : (b : Bool) → polynomial_bits (pick b (sf 57) (sf 60)) (pick b (sf 58) (sf 61)) (pick b (sf 59) (sf 62)) equation ≤ 57
    go true = bits-few equation 12 13 (lit≤ tt) (lit≤ tt)
    go false = bits-few equation 14 15 (lit≤ tt) (lit≤ tt)

-- the widths of residuals
module _ (size : ℕ) where
  pub t-width-0 : size ≡ 0 → 6 ≡ (troposphere_residual size).width
  unfolding sf line_of find table
  t-width-0 e = rw (eq-eqb size 0 e)

  pub t-width-1 : (size ≡ 0 → ⊥) → 8 ≡ (troposphere_residual size).width
  unfolding sf line_of find table
  t-width-1 e = rw (ne_eqb size 0 e)

  pub i-width-0 : size ≡ 0 → 4 ≡ (ionosphere_residual size).width
  unfolding sf line_of find table
  i-width-0 e = rw (eq-eqb size 0 e)

  pub i-width-1 : (size ≡ 0 → ⊥) → size ≡ 1 → 7 ≡ (ionosphere_residual size).width
  unfolding sf line_of find table
  i-width-1 n e = rw (ne_eqb size 0 n, eq-eqb size 1 e)

  pub i-width-2 : (size ≡ 0 → ⊥) → (size ≡ 1 → ⊥) → size ≡ 2 → 10 ≡ (ionosphere_residual size).width
  unfolding sf line_of find table
  i-width-2 n m e = rw (ne_eqb size 0 n, ne_eqb size 1 m, eq-eqb size 2 e)

  pub i-width-3 : (size ≡ 0 → ⊥) → (size ≡ 1 → ⊥) → (size ≡ 2 → ⊥) → 14 ≡ (ionosphere_residual size).width
  unfolding sf line_of find table
  i-width-3 n m k = rw (ne_eqb size 0 n, ne_eqb size 1 m, ne_eqb size 2 k)
