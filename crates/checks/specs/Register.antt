-- Serves proofs, and is proved: a register's shifts. Bounds, that a shift is linear in xor, and that bits which enter one after the other are
-- those bits at the top and as many shifts.
use Rattle.std.specs.Prelude.{◌≡◌, List, [], ◌∷◌, ◌++◌, get_or}
use Rattle.std.proofs.Math.Path.{refl, ap, ap₂}
use Rattle.std.proofs.Common.{sym, ◌∙◌, subst, zero-add, suc-add, add-mul, mul_assoc, mod-lt, mod-eq_of_lt, lt_of_lt_of_le, arith, pow_pos, pow-add, pow_mono, shl_lt, shr_lt}
use Prim.Native.Nat.{ℕ, zero, suc, ◌+◌, ◌-◌, ◌*◌, ◌/◌, ◌%◌, ◌^◌, ◌≤◌, ◌<◌}
use Rattle.std.proofs.Math.Nat.{zero-mul, mod-one, div-eq_of_lt}
use Rattle.std.specs.Int.Bits.{bit_xor, xor_zero_r, xor_lt, xor_mod, xor_shifted}
use Rattle.std.proofs.lemmas.Nat.{xor_shr, mod-pow-add}
use Rattle.bits.specs.Bits.{bits_of}
use Rattle.checks.specs.Crc.{shift, crc_bits}
use Rattle.checks.specs.Steps.{shifts, crc_byte}
use Rattle.checks.specs.Xor.{xor_assoc, xor-four, bit-mul-lt, xor-bit-mul, xor-shl}

-- ---- a shift

module _ (w p : ℕ) (h1 : 1 ≤ w) where
  pub top_lt : (r : ℕ) → r < 2 ^ w → r / 2 ^ (w - 1) < 2
  top_lt r l = shr_lt 1 (w - 1) (subst (λ (x : ℕ). r < 2 ^ x) (omega arith) l)

  pub shift-lt : p < 2 ^ w → (r : ℕ) → r < 2 ^ w → shift w p r < 2 ^ w
  unfolding shift
  shift-lt hp r l = xor_lt w (r * 2 % 2 ^ w) (r / 2 ^ (w - 1) * p) (mod-lt (r * 2) (pow_pos w)) (bit-mul-lt (r / 2 ^ (w - 1)) (top_lt r l) hp)

  pub shifts-lt : p < 2 ^ w → (n r : ℕ) → r < 2 ^ w → shifts w p n r < 2 ^ w
  unfolding shifts
  shifts-lt hp zero r l = l
  shifts-lt hp (suc n) r l = shifts-lt hp n (shift w p r) (shift-lt hp r l)

  -- a shift is linear
  pub shift-xor : (a b : ℕ) → a < 2 ^ w → b < 2 ^ w → shift w p (bit_xor a b) ≡ bit_xor (shift w p a) (shift w p b)
  unfolding shift
  shift-xor a b ha hb =
      ap₂ bit_xor
      (ap (λ (x : ℕ). x % 2 ^ w) (sym (xor-shl 1 a b)) ∙ xor_mod (a * 2) (b * 2) w)
      (ap (λ (x : ℕ). x * p) (xor_shr a b (w - 1)) ∙ xor-bit-mul (a / 2 ^ (w - 1)) (b / 2 ^ (w - 1)) p (top_lt a ha) (top_lt b hb))
      ∙ xor-four (a * 2 % 2 ^ w) (b * 2 % 2 ^ w) (a / 2 ^ (w - 1) * p) (b / 2 ^ (w - 1) * p)

  pub shifts-xor : p < 2 ^ w → (n a b : ℕ) → a < 2 ^ w → b < 2 ^ w
      → shifts w p n (bit_xor a b) ≡ bit_xor (shifts w p n a) (shifts w p n b)
  unfolding shifts
  shifts-xor hp zero a b ha hb = refl
  shifts-xor hp (suc n) a b ha hb =
      ap (λ (x : ℕ). shifts w p n x) (shift-xor a b ha hb)
      ∙ shifts-xor hp n (shift w p a) (shift w p b) (shift-lt hp a ha) (shift-lt hp b hb)

  -- where the top bit is not set, a shift doubles
  pub shift-low : (r : ℕ) → r < 2 ^ (w - 1) → shift w p r ≡ r * 2
  unfolding shift
  shift-low r l =
      ap₂ bit_xor
      (mod-eq_of_lt (subst (λ (x : ℕ). r * 2 < 2 ^ x) {y = w} (omega arith) (shl_lt (w - 1) 1 l)))
      (ap (λ (x : ℕ). x * p) (div-eq_of_lt l) ∙ zero-mul p)
      ∙ xor_zero_r (r * 2)

-- a shifts and then b
pub shifts-add : (w p a b r : ℕ) → shifts w p (a + b) r ≡ shifts w p b (shifts w p a r)
unfolding shifts
shifts-add w p zero b r = ap (λ (x : ℕ). shifts w p x r) (zero-add b)
shifts-add w p (suc a) b r = ap (λ (x : ℕ). shifts w p x r) (suc-add a b) ∙ shifts-add w p a b (shift w p r)

pub shifts-zero : (w p n : ℕ) → 1 ≤ w → shifts w p n 0 ≡ 0
unfolding shifts
shifts-zero w p zero h = refl
shifts-zero w p (suc n) h = ap (λ (x : ℕ). shifts w p n x) (shift-low w p h 0 (pow_pos (w - 1))) ∙ shifts-zero w p n h

-- ---- a byte

module _ (w p : ℕ) (h8 : 8 ≤ w) (hp : p < 2 ^ w) where
  pub in-lt : (r b : ℕ) → r < 2 ^ w → b < 256 → bit_xor r (b * 2 ^ (w - 8)) < 2 ^ w
  in-lt r b hr hb = xor_lt w r (b * 2 ^ (w - 8)) hr (subst (λ (x : ℕ). b * 2 ^ (w - 8) < 2 ^ x) {y = w} (omega arith) (shl_lt 8 (w - 8) hb))

  pub byte-lt : (r b : ℕ) → r < 2 ^ w → b < 256 → crc_byte w p r b < 2 ^ w
  unfolding crc_byte
  byte-lt r b hr hb = shifts-lt w p (omega arith) hp 8 (bit_xor r (b * 2 ^ (w - 8))) (in-lt r b hr hb)

-- ---- bits, and a byte of them

pub bits-append : (w p r : ℕ) (l k : List ℕ) → crc_bits w p r (l ++ k) ≡ crc_bits w p (crc_bits w p r l) k
unfolding crc_bits
bits-append w p r [] k = refl
bits-append w p r (b ∷ l) k = bits-append w p (shift w p (bit_xor r (b * 2 ^ (w - 1)))) l k

pub bits-lt : (w p : ℕ) → 1 ≤ w → p < 2 ^ w → (l : List ℕ) → ((i : ℕ) → get_or l i 0 < 2) → (r : ℕ) → r < 2 ^ w → crc_bits w p r l < 2 ^ w
unfolding crc_bits
bits-lt w p h hp [] hl r hr = hr
bits-lt w p h hp (b ∷ l) hl r hr =
    let enters : b * 2 ^ (w - 1) < 2 ^ w = subst (λ (x : ℕ). b * 2 ^ (w - 1) < 2 ^ x) {y = w} (omega arith) (shl_lt 1 (w - 1) (hl 0)) in
    bits-lt w p h hp l (λ i. hl (suc i)) (shift w p (bit_xor r (b * 2 ^ (w - 1)))) (shift-lt w p h hp _ (xor_lt w r (b * 2 ^ (w - 1)) hr enters))

-- the n low bits of x, one after the other, are those bits at the top of the register and n shifts
pub bits-shifts : (w p : ℕ) → p < 2 ^ w → (n r x : ℕ) → n ≤ w → r < 2 ^ w
    → crc_bits w p r (bits_of n x) ≡ shifts w p n (bit_xor r (x % 2 ^ n * 2 ^ (w - n)))
unfolding crc_bits bits_of shifts
bits-shifts w p hp zero r x h hr = sym (ap (λ (z : ℕ). bit_xor r (z * 2 ^ (w - 0))) (mod-one x) ∙ ap (bit_xor r) (zero-mul (2 ^ (w - 0))) ∙ xor_zero_r r)
bits-shifts w p hp (suc n) r x h hr =
    let t : ℕ = x / 2 ^ n % 2 in
    let y : ℕ = x % 2 ^ n in
    let v : ℕ = w - suc n in
    let a : ℕ = t * 2 ^ (w - 1) in
    let b : ℕ = y * 2 ^ v in
    let one : 1 ≤ w = omega arith in
    let t-lt : t < 2 ^ 1 = mod-lt (x / 2 ^ n) (pow_pos 1) in
    let y-lt : y < 2 ^ n = mod-lt x (pow_pos n) in
    let ev : n + v ≡ w - 1 = omega arith in
    let ew : 1 + (w - 1) ≡ w = omega arith in
    let ex : suc n ≡ 1 + n = omega arith in
    let en : v + 1 ≡ w - n = omega arith in
    let a_lt : a < 2 ^ w = subst (λ (z : ℕ). a < 2 ^ z) ew (shl_lt 1 (w - 1) t-lt) in
    let b_lt : b < 2 ^ (w - 1) = subst (λ (z : ℕ). b < 2 ^ z) ev (shl_lt n v y-lt) in
    let b-lt2 : b < 2 ^ w = lt_of_lt_of_le b_lt (pow_mono (omega arith)) in
    let ra-lt : bit_xor r a < 2 ^ w = xor_lt w r a hr a_lt in
    let parts : x % 2 ^ suc n * 2 ^ v ≡ bit_xor a b
    = ap (λ (z : ℕ). x % 2 ^ z * 2 ^ v) ex
    ∙ ap (λ (z : ℕ). z * 2 ^ v) (mod-pow-add x 1 n)
    ∙ add-mul (t * 2 ^ n) y (2 ^ v)
    ∙ ap (λ (z : ℕ). z + b) (mul_assoc t (2 ^ n) (2 ^ v) ∙ ap (λ (z : ℕ). t * z) (sym (pow-add 2 n v) ∙ ap (λ (z : ℕ). 2 ^ z) ev))
    ∙ sym (xor_shifted t (w - 1) b b_lt) in
    let low : shift w p b ≡ y * 2 ^ (w - n)
    = shift-low w p one b b_lt ∙ mul_assoc y (2 ^ v) 2 ∙ ap (λ (z : ℕ). y * z) (sym (pow-add 2 v 1) ∙ ap (λ (z : ℕ). 2 ^ z) en) in
    bits-shifts w p hp n (shift w p (bit_xor r a)) x (omega arith) (shift-lt w p one hp (bit_xor r a) ra-lt)
    ∙ ap (λ (z : ℕ). shifts w p n z)
    (ap (λ (z : ℕ). bit_xor (shift w p (bit_xor r a)) z) (sym low)
    ∙ sym (shift-xor w p one (bit_xor r a) b ra-lt b-lt2)
    ∙ ap (λ (z : ℕ). shift w p z) (xor_assoc r a b ∙ ap (λ (z : ℕ). bit_xor r z) (sym parts)))

-- a byte goes in
pub bits-byte : (w p r b : ℕ) → 8 ≤ w → p < 2 ^ w → r < 2 ^ w → crc_bits w p r (bits_of 8 b) ≡ crc_byte w p r (b % 256)
unfolding crc_byte
bits-byte w p r b h8 hp hr = bits-shifts w p hp 8 r b h8 hr
