-- The returns of `put`, of `say` and of a number, over plain variables.
use Rattle.std.specs.Prelude.{◌≡◌, refl, Bool, true, false, List, ◌++◌, ℕ, ◌+◌, ◌-◌, ◌≤◌, leb, length, take, drop}
use Rattle.std.proofs.Common.{ap, ap₂, ◌∙◌, arith, drop-drop, le-leb, leb-true}
use Rattle.io.specs.Digits.{last_digits, IsDigitCount}
use Rattle.text.specs.Text.{fits, end_after, out_after, place_for, waiting_after, said_after, decimal}
use Rattle.text.specs.Decimal.{fewest-decimal}

module _ (out : List ℕ) (at : ℕ) (text : List ℕ) where
  pub out-put : (end : ℕ) → end ≡ at + length text → end ≤ length out → (part : List ℕ) → part ≡ text
      → take at out ++ (part ++ drop (end - at) (drop at out)) ≡ out_after out at text
  unfolding out_after fits
  out-put end p h part e =
      let n : end - at ≡ length text = omega arith in
      let b : drop (end - at) (drop at out) ≡ drop (at + length text) out = ap (λ (x : ℕ). drop x (drop at out)) n ∙ drop-drop (length text) at out in
      rw (le-leb (at + length text) (length out) (omega arith)) (ap₂ (λ x y. take at out ++ (x ++ y)) e b)

  -- ---- where a text that is said has its place

  module _ (place : ℕ) (e : place ≡ place_for out at text) where
    pub said-end : (end : ℕ) → end ≡ end_after out place text → end ≡ waiting_after out at text
    unfolding waiting_after
    said-end end q = rw (← e) q

    pub said-out : (out' : List ℕ) → out' ≡ out_after out place text → out' ≡ said_after out at text
    unfolding said_after
    said-out out' q = rw (← e) q

-- where a text ends, the buffer has not ended
pub end-in : (out out' : List ℕ) (at : ℕ) (text : List ℕ) (end : ℕ) → length out' ≡ length out → at ≤ length out → end ≡ end_after out at text → end ≤ length out'
unfolding end_after fits
end-in out out' at text end same h e = go (leb (at + length text) (length out)) refl
  where
    go : (b : Bool) → leb (at + length text) (length out) ≡ b → end ≤ length out'
    go true q = let z = leb-true (at + length text) (length out) q in let y : end ≡ at + length text = rw q at e in omega arith
    go false q = let y : end ≡ at = rw q at e in omega arith

-- ---- a number's digits, as they are laid in a buffer of their own

module _ (out : List ℕ) (at n k : ℕ) (spelt : List ℕ) (few : IsDigitCount 10 1 n k) (d : take k spelt ≡ last_digits 10 k n) where
  are : take k spelt ≡ decimal n
  are = d ∙ fewest-decimal k n few

  pub number-end : (end : ℕ) → end ≡ end_after out at (take k spelt) → end ≡ end_after out at (decimal n)
  number-end end q = rw (← are) q

  pub number-out : (out' : List ℕ) → out' ≡ out_after out at (take k spelt) → out' ≡ out_after out at (decimal n)
  number-out out' q = rw (← are) q

  pub number-waits : (end : ℕ) → end ≡ waiting_after out at (take k spelt) → end ≡ waiting_after out at (decimal n)
  number-waits end q = rw (← are) q

  pub number-said : (out' : List ℕ) → out' ≡ said_after out at (take k spelt) → out' ≡ said_after out at (decimal n)
  number-said out' q = rw (← are) q
