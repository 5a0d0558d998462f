-- The fewest digits that hold a number are its decimal digits; a number of 64 bits has at most 20. Proved.
use Rattle.std.specs.Prelude.{◌≡◌, refl, Bool, true, false, cond, [], ◌∷◌, ◌++◌, ℕ, zero, suc, ◌*◌, ◌-◌, ◌/◌, ◌%◌, ◌^◌, ◌≤◌, ◌<◌, ltb, length}
use Rattle.std.proofs.Common.{ap, arith, pow-suc, length-append, le-ltb, lt-ltb, ltb-false}
use Rattle.io.specs.Digits.{last_digits, IsDigitCount}
use Rattle.text.specs.Text.{digit, digits_in, decimal}

ten-pos : (k : ℕ) → 0 < 10 ^ k
ten-pos zero = omega arith
ten-pos (suc k) = rw (pow-suc 10 k) (omega (arith, ten-pos k))

-- a digit that `io` puts
glyph-is : (k n : ℕ) → last_digits 10 (suc k) n ≡ last_digits 10 k (n / 10) ++ (digit n ∷ [])
glyph-is k n = rw (lt-ltb (n % 10) 10 (omega arith))

fewest-in : (k steps n : ℕ) → n < steps → IsDigitCount 10 1 n k → last_digits 10 k n ≡ digits_in steps n
unfolding digits_in
fewest-in zero steps n h f = absurd (omega (arith, f.0))
fewest-in (suc k) zero n h f = absurd (omega arith)
fewest-in (suc zero) (suc steps) n h f = rw (glyph-is 0 n, lt-ltb n 10 (omega (arith, f.1)))
fewest-in (suc (suc k)) (suc steps) n h f =
    let a : 10 ^ suc k ≡ 10 ^ k * 10 = pow-suc 10 k in
    let b : 10 ^ suc (suc k) ≡ 10 ^ suc k * 10 = pow-suc 10 (suc k) in
    let one : 0 < 10 ^ k = ten-pos k in
    let less : suc (suc k) - 1 ≡ suc k = omega arith in
    let less' : suc k - 1 ≡ k = omega arith in
    let low : 10 ^ suc k ≤ n = rw less at (f.2 (omega arith)) in
    let high : n < 10 ^ suc (suc k) = f.1 in
    let g : IsDigitCount 10 1 (n / 10) (suc k) = (omega arith, omega arith, λ _. rw less' (omega arith)) in
    rw (glyph-is (suc k) n, le-ltb n 10 (omega arith)) (ap (λ l. l ++ (digit n ∷ [])) (fewest-in (suc k) steps (n / 10) (omega arith) g))

pub fewest-decimal : (k n : ℕ) → IsDigitCount 10 1 n k → last_digits 10 k n ≡ decimal n
unfolding decimal
fewest-decimal k n f = fewest-in k (suc n) n (omega arith) f

short-in : (k steps n : ℕ) → n < 10 ^ suc k → length (digits_in steps n) ≤ suc k
unfolding digits_in
short-in k zero n h = omega arith
short-in k (suc steps) n h = go k h (ltb n 10) refl (λ j. short-in j steps (n / 10))
  where
    go : (k : ℕ) → n < 10 ^ suc k → (b : Bool) → ltb n 10 ≡ b → ((j : ℕ) → n / 10 < 10 ^ suc j → length (digits_in steps (n / 10)) ≤ suc j)
        → length (cond b (digit n ∷ []) (digits_in steps (n / 10) ++ (digit n ∷ []))) ≤ suc k
    go k h true q r = omega arith
    go zero h false q r = absurd (omega (arith, ltb-false))
    go (suc k) h false q r =
        let a : 10 ^ suc (suc k) ≡ 10 ^ suc k * 10 = pow-suc 10 (suc k) in
        rw (length-append (digits_in steps (n / 10)) (digit n ∷ [])) (omega (arith, r k (omega arith)))

pub decimal-short : (n : ℕ) → n < 2 ^ 64 → length (decimal n) ≤ 20
unfolding decimal
decimal-short n h = short-in 19 (suc n) n (omega arith)
