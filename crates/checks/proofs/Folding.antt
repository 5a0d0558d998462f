-- Numbers as messages: the register after the bits of a number is linear in it; zeros before it do not count, and zeros behind it are
-- shifts. So a word far ahead may be moved down, where the polynomial leaves the same register.
use mathlib.Core.Path.{◌≡◌, refl, sym, ap, ap₂, ◌∙◌, subst}
use mathlib.Core.Bool.{Bool, true}
use mathlib.Core.List.{List, [], ◌∷◌, ◌++◌}
use Prim.Native.Nat.{ℕ, zero, suc, ◌+◌, ◌-◌, ◌*◌, ◌/◌, ◌%◌, ◌^◌, ◌≤◌, ◌<◌}
use native.Mathlib.Nat.{zero-mul, add-zero, zero-add, add_comm, mul_assoc, add_assoc, add-mul, mod-lt, mod-eq_of_lt, div-eq_of_lt, mul-one, one-mul}
use native.Mathlib.Omega.{arith}
use lib.Dec.{T, eqb, eqb→eq}
use lib.Bits.{bit_xor, xor_comm, xor_zero_r, xor_zero_l, xor_lt, xor_shr, xor_mod, xor_shifted, xor_block}
use lib.Pow.{pow_pos, shl_lt, shr_lt, shl-shr, shr-shr, split, high}
use Rattle.bits.specs.Bits.{bits_of}
use Rattle.bits.specs.Laws.{bits_of-add, bits_of-low, more_lt}
use Rattle.checks.specs.Crc.{shift, crc_bits}
use Rattle.checks.specs.Steps.{shifts}
use Rattle.checks.specs.Folds.{after, ups, xors, spread, folded, sums, Near, Rule}
use Rattle.checks.specs.Xor.{xor_assoc, xor-four, xor-shl}
use Rattle.checks.specs.Register.{shift-lt, shifts-lt, shift-xor, shifts-xor, shifts-add, shifts-zero, bits-append, bits-shifts}
use Rattle.checks.proofs.Table.{both, both_left, both_right}

-- ---- linear functions that agree at the powers of two agree

abbrev pub Linear : (ℕ → ℕ) → Type 0
Linear f = (x y : ℕ) → f (bit_xor x y) ≡ bit_xor (f x) (f y)

pub agree : (f g : ℕ → ℕ) → Linear f → Linear g → f 0 ≡ g 0 → (n : ℕ) → ((k : ℕ) → k < n → f (2 ^ k) ≡ g (2 ^ k)) → (x : ℕ) → x < 2 ^ n → f x ≡ g x
agree f g lf lg z zero h zero l = z
agree f g lf lg z zero h (suc x) l = absurd (omega arith)
agree f g lf lg z (suc n) h x l =
    go (agree f g lf lg z n (λ k i. h k (omega arith)) (x % 2 ^ n) (mod-lt x (pow_pos n))) (x / 2 ^ n) refl
    (shr_lt 1 n (subst (λ (m : ℕ). x < 2 ^ m) {y = 1 + n} (omega arith) l))
  where
    parts : (t : ℕ) → x / 2 ^ n ≡ t → x ≡ bit_xor (t * 2 ^ n) (x % 2 ^ n)
    parts t e = sym (split x n) ∙ ap (λ (s : ℕ). s * 2 ^ n + x % 2 ^ n) e ∙ sym (xor_shifted t n (x % 2 ^ n) (mod-lt x (pow_pos n)))

    go : f (x % 2 ^ n) ≡ g (x % 2 ^ n) → (t : ℕ) → x / 2 ^ n ≡ t → t < 2 → f x ≡ g x
    go rest zero e i =
        let q : x ≡ x % 2 ^ n = parts 0 e ∙ ap (λ (s : ℕ). bit_xor s (x % 2 ^ n)) (zero-mul (2 ^ n)) ∙ xor_zero_l (x % 2 ^ n) in
        ap f q ∙ rest ∙ ap g (sym q)
    go rest (suc zero) e i =
        let q : x ≡ bit_xor (2 ^ n) (x % 2 ^ n) = parts 1 e ∙ ap (λ (s : ℕ). bit_xor s (x % 2 ^ n)) (one-mul (2 ^ n)) in
        ap f q ∙ lf (2 ^ n) (x % 2 ^ n) ∙ ap₂ bit_xor (h n (omega arith)) rest ∙ sym (lg (2 ^ n) (x % 2 ^ n)) ∙ ap g (sym q)
    go rest (suc (suc t)) e i = absurd (omega arith)

-- ---- the register after the bits of a number

bit-lt : (w t : ℕ) → 1 ≤ w → t < 2 → t * 2 ^ (w - 1) < 2 ^ w
bit-lt w t h l = subst (λ (x : ℕ). t * 2 ^ (w - 1) < 2 ^ x) {y = w} (omega arith) (shl_lt 1 (w - 1) l)

module _ (w p : ℕ) (h1 : 1 ≤ w) (hp : p < 2 ^ w) where
  in-lt : (r x n : ℕ) → r < 2 ^ w → bit_xor r (x / 2 ^ n % 2 * 2 ^ (w - 1)) < 2 ^ w
  in-lt r x n l = xor_lt w r (x / 2 ^ n % 2 * 2 ^ (w - 1)) l (bit-lt w (x / 2 ^ n % 2) h1 (mod-lt (x / 2 ^ n) (omega arith)))

  pub going-lt : (n r x : ℕ) → r < 2 ^ w → crc_bits w p r (bits_of n x) < 2 ^ w
  unfolding crc_bits bits_of
  going-lt zero r x l = l
  going-lt (suc n) r x l = going-lt n (shift w p (bit_xor r (x / 2 ^ n % 2 * 2 ^ (w - 1)))) x (shift-lt w p h1 hp _ (in-lt r x n l))

  pub after-lt : (n x : ℕ) → after w p n x < 2 ^ w
  unfolding after
  after-lt n x = going-lt n 0 x (pow_pos w)

  pub going-xor : (n r s x y : ℕ) → r < 2 ^ w → s < 2 ^ w
      → crc_bits w p (bit_xor r s) (bits_of n (bit_xor x y)) ≡ bit_xor (crc_bits w p r (bits_of n x)) (crc_bits w p s (bits_of n y))
  unfolding crc_bits bits_of
  going-xor zero r s x y hr hs = refl
  going-xor (suc n) r s x y hr hs =
      let a : ℕ = x / 2 ^ n % 2 in
      let b : ℕ = y / 2 ^ n % 2 in
      let one : bit_xor x y / 2 ^ n % 2 ≡ bit_xor a b = ap (λ (z : ℕ). z % 2) (xor_shr x y n) ∙ xor_mod (x / 2 ^ n) (y / 2 ^ n) 1 in
      let enters : bit_xor (bit_xor r s) (bit_xor x y / 2 ^ n % 2 * 2 ^ (w - 1)) ≡ bit_xor (bit_xor r (a * 2 ^ (w - 1))) (bit_xor s (b * 2 ^ (w - 1)))
      = ap (λ (z : ℕ). bit_xor (bit_xor r s) z) (ap (λ (z : ℕ). z * 2 ^ (w - 1)) one ∙ sym (xor-shl (w - 1) a b))
      ∙ xor-four r s (a * 2 ^ (w - 1)) (b * 2 ^ (w - 1)) in
      ap (λ (z : ℕ). crc_bits w p (shift w p z) (bits_of n (bit_xor x y))) enters
      ∙ ap (λ (z : ℕ). crc_bits w p z (bits_of n (bit_xor x y))) (shift-xor w p h1 (bit_xor r (a * 2 ^ (w - 1))) (bit_xor s (b * 2 ^ (w - 1))) (in-lt r x n hr) (in-lt s y n hs))
      ∙ going-xor n _ _ x y (shift-lt w p h1 hp _ (in-lt r x n hr)) (shift-lt w p h1 hp _ (in-lt s y n hs))

  pub after-xor : (n : ℕ) → Linear (after w p n)
  unfolding after
  after-xor n x y = going-xor n 0 0 x y (pow_pos w) (pow_pos w)

  -- zeros behind are shifts
  going-zeros : (n r : ℕ) → crc_bits w p r (bits_of n 0) ≡ shifts w p n r
  unfolding crc_bits bits_of shifts
  going-zeros zero r = refl
  going-zeros (suc n) r =
      let none : 0 / 2 ^ n % 2 ≡ 0 = ap (λ (z : ℕ). z % 2) (div-eq_of_lt (pow_pos n)) in
      ap (λ (z : ℕ). crc_bits w p (shift w p z) (bits_of n 0)) (ap (λ (z : ℕ). bit_xor r (z * 2 ^ (w - 1))) none ∙ ap (bit_xor r) (zero-mul (2 ^ (w - 1))) ∙ xor_zero_r r)
      ∙ going-zeros n (shift w p r)

  pub after-up : (n e x : ℕ) → after w p (n + e) (x * 2 ^ e) ≡ shifts w p e (after w p n x)
  unfolding after
  after-up n e x =
      ap (crc_bits w p 0) (bits_of-add n e (x * 2 ^ e) ∙ ap₂ (λ (l k : List ℕ). l ++ k) (ap (bits_of n) (shl-shr x e)) (ap (bits_of e) (sym (add-zero (x * 2 ^ e))) ∙ bits_of-low e x 0))
      ∙ bits-append w p 0 (bits_of n x) (bits_of e 0)
      ∙ going-zeros e (crc_bits w p 0 (bits_of n x))

  -- zeros before do not count
  pub after-wide : (k n x : ℕ) → x < 2 ^ n → after w p (k + n) x ≡ after w p n x
  unfolding after
  after-wide k n x l =
      ap (crc_bits w p 0) (bits_of-add k n x ∙ ap (λ (z : ℕ). bits_of k z ++ bits_of n x) (div-eq_of_lt l))
      ∙ bits-append w p 0 (bits_of k 0) (bits_of n x)
      ∙ ap (λ (z : ℕ). crc_bits w p z (bits_of n x)) (going-zeros k 0 ∙ shifts-zero w p k h1)

  -- more bits behind
  pub after_more : (n m x y : ℕ) → y < 2 ^ m → crc_bits w p (after w p n x) (bits_of m y) ≡ after w p (n + m) (x * 2 ^ m + y)
  unfolding after
  after_more n m x y l =
      sym (ap (crc_bits w p 0) (bits_of-add n m (x * 2 ^ m + y) ∙ ap₂ (λ (a b : List ℕ). a ++ b) (ap (bits_of n) (high x m l)) (bits_of-low m x y))
      ∙ bits-append w p 0 (bits_of n x) (bits_of m y))

  -- a register before 64 bits is added at their top
  pub after_two : (r l : ℕ) → w ≤ 64 → r < 2 ^ w → l < 2 ^ 64 → crc_bits w p r (bits_of 64 l) ≡ after w p 64 (bit_xor l (r * 2 ^ (64 - w)))
  unfolding after
  after_two r l h hr hl =
      let v : ℕ = 64 - w in
      let e : w + v ≡ 64 = omega arith in
      let up : after w p 64 (r * 2 ^ v) ≡ shifts w p 64 r
      = ap (λ (n : ℕ). after w p n (r * 2 ^ v)) (sym e) ∙ after-up w v r
      ∙ ap (shifts w p v) (bits-shifts w p hp w 0 r (omega arith) (pow_pos w) ∙ ap (shifts w p w) (whole r hr))
      ∙ sym (shifts-add w p w v r) ∙ ap (λ (n : ℕ). shifts w p n r) e in
      ap₂ (λ (a b : ℕ). crc_bits w p a (bits_of 64 b)) (sym (xor_zero_l r)) (sym (xor_zero_r l))
      ∙ going-xor 64 0 r l 0 (pow_pos w) hr
      ∙ ap (bit_xor (after w p 64 l)) (going-zeros 64 r ∙ sym up)
      ∙ sym (after-xor 64 l (r * 2 ^ v))
    where
      whole : (r : ℕ) → r < 2 ^ w → bit_xor 0 (r % 2 ^ w * 2 ^ (w - w)) ≡ r
      whole r l =
          let z : w - w ≡ 0 = omega arith in
          xor_zero_l _ ∙ ap₂ (λ (a b : ℕ). a * 2 ^ b) (mod-eq_of_lt l) z ∙ mul-one r

  -- ---- moves up

  -- shifts go past one another
  shifts-past : (a b r : ℕ) → shifts w p a (shifts w p b r) ≡ shifts w p b (shifts w p a r)
  shifts-past a b r = sym (shifts-add w p b a r) ∙ ap (λ (n : ℕ). shifts w p n r) (add_comm b a) ∙ shifts-add w p a b r

  sums_lt : (es : List ℕ) (r : ℕ) → r < 2 ^ w → sums w p es r < 2 ^ w
  sums_lt [] r l = pow_pos w
  sums_lt (e ∷ es) r l = xor_lt w (shifts w p e r) (sums w p es r) (shifts-lt w p h1 hp e r l) (sums_lt es r l)

  sums-past : (es : List ℕ) (k r : ℕ) → r < 2 ^ w → sums w p es (shifts w p k r) ≡ shifts w p k (sums w p es r)
  sums-past [] k r l = sym (shifts-zero w p k h1)
  sums-past (e ∷ es) k r l =
      ap₂ bit_xor (shifts-past e k r) (sums-past es k r l)
      ∙ sym (shifts-xor w p h1 hp k (shifts w p e r) (sums w p es r) (shifts-lt w p h1 hp e r l) (sums_lt es r l))

  sums-xor : (es : List ℕ) (r s : ℕ) → r < 2 ^ w → s < 2 ^ w → sums w p es (bit_xor r s) ≡ bit_xor (sums w p es r) (sums w p es s)
  sums-xor [] r s hr hs = refl
  sums-xor (e ∷ es) r s hr hs =
      ap₂ bit_xor (shifts-xor w p h1 hp e r s hr hs) (sums-xor es r s hr hs)
      ∙ xor-four (shifts w p e r) (shifts w p e s) (sums w p es r) (sums w p es s)

  -- a power of two is a bit moved up
  after-power : (k : ℕ) → k < 64 → after w p 64 (2 ^ k) ≡ shifts w p k (after w p 1 1)
  after-power k l =
      let e : 63 - k + (1 + k) ≡ 64 = omega arith in
      let fits : 1 * 2 ^ k < 2 ^ (1 + k) = shl_lt 1 k (omega arith) in
      ap₂ (λ (n x : ℕ). after w p n x) (sym e) (sym (one-mul (2 ^ k))) ∙ after-wide (63 - k) (1 + k) (1 * 2 ^ k) fits ∙ after-up 1 k 1

  after_none : (n : ℕ) → after w p n 0 ≡ 0
  unfolding after
  after_none n = going-zeros n 0 ∙ shifts-zero w p n h1

  module _ (es : List ℕ) (rule : shifts w p 128 (after w p 1 1) ≡ sums w p es (after w p 1 1)) where
    -- 128 shifts of what 64 bits leave are those sums: at each power of two, and so at each number
    far : (x : ℕ) → x < 2 ^ 64 → shifts w p 128 (after w p 64 x) ≡ sums w p es (after w p 64 x)
    far =
        agree (λ x. shifts w p 128 (after w p 64 x)) (λ x. sums w p es (after w p 64 x))
        (λ x y. ap (shifts w p 128) (after-xor 64 x y) ∙ shifts-xor w p h1 hp 128 (after w p 64 x) (after w p 64 y) (after-lt 64 x) (after-lt 64 y))
        (λ x y. ap (sums w p es) (after-xor 64 x y) ∙ sums-xor es (after w p 64 x) (after w p 64 y) (after-lt 64 x) (after-lt 64 y))
        (at_none ∙ sym at-sums)
        64
        (λ k l.
        ap (shifts w p 128) (after-power k l) ∙ shifts-past 128 k (after w p 1 1) ∙ ap (shifts w p k) rule
        ∙ sym (sums-past es k (after w p 1 1) (after-lt 1 1)) ∙ ap (sums w p es) (sym (after-power k l)))
      where
        at_none : shifts w p 128 (after w p 64 0) ≡ 0
        at_none = ap (shifts w p 128) (after_none 64) ∙ shifts-zero w p 128 h1

        none-sums : (es : List ℕ) → sums w p es 0 ≡ 0
        none-sums [] = refl
        none-sums (e ∷ es) = ap₂ bit_xor (shifts-zero w p e h1) (none-sums es)

        at-sums : sums w p es (after w p 64 0) ≡ 0
        at-sums = ap (sums w p es) (after_none 64) ∙ none-sums es

module _ (w p : ℕ) (h1 : 1 ≤ w) (hp : p < 2 ^ w) where
  one_up : (e x : ℕ) → e ≤ 64 → x < 2 ^ 64 → after w p 128 (x * 2 ^ e) ≡ shifts w p e (after w p 64 x)
  one_up e x n l =
      let s : 64 - e + (64 + e) ≡ 128 = omega arith in
      ap (λ (k : ℕ). after w p k (x * 2 ^ e)) (sym s) ∙ after-wide w p h1 hp (64 - e) (64 + e) (x * 2 ^ e) (shl_lt 64 e l) ∙ after-up w p h1 hp 64 e x

  after-ups : (es : List ℕ) → Near es → (x : ℕ) → x < 2 ^ 64 → after w p 128 (ups es x) ≡ sums w p es (after w p 64 x)
  unfolding ups
  after-ups [] n x l = after_none w p h1 hp 128
  after-ups (e ∷ es) n x l = after-xor w p h1 hp 128 (x * 2 ^ e) (ups es x) ∙ ap₂ bit_xor (one_up e x n.0 l) (after-ups es n.1 x l)

-- ---- 64 bits more: the upper half moves down

pub fold_is : {w p : ℕ} {es : List ℕ} → Rule w p es → (n c : ℕ) → n < 2 ^ 128 → c < 2 ^ 64
    → crc_bits w p (after w p 128 n) (bits_of 64 c) ≡ after w p 128 (folded es n c)
fold_is {w} {p} {es} rule n c hn hc =
    let h1 : 1 ≤ w = rule.some in
    let hp : p < 2 ^ w = rule.fits in
    let h : ℕ = n / 2 ^ 64 in
    let l : ℕ = n % 2 ^ 64 in
    let hh : h < 2 ^ 64 = shr_lt 64 64 hn in
    let m : ℕ = l * 2 ^ 64 + c in
    let m-lt : m < 2 ^ 128 = more_lt 64 64 (mod-lt n (pow_pos 64)) hc in
    let parts : n * 2 ^ 64 + c ≡ bit_xor (h * 2 ^ 128) m
    = ap (λ (z : ℕ). z * 2 ^ 64 + c) (sym (split n 64))
    ∙ ap (λ (z : ℕ). z + c) (add-mul (h * 2 ^ 64) l (2 ^ 64) ∙ ap (λ (z : ℕ). z + l * 2 ^ 64) (mul_assoc h (2 ^ 64) (2 ^ 64)))
    ∙ add_assoc (h * 2 ^ 128) (l * 2 ^ 64) c
    ∙ sym (xor_shifted h 128 m m-lt) in
    after_more w p h1 hp 128 64 n c hc
    ∙ ap (after w p 192) parts
    ∙ after-xor w p h1 hp 192 (h * 2 ^ 128) m
    ∙ ap₂ bit_xor (after-up w p h1 hp 64 128 h ∙ far w p h1 hp es rule.same h hh ∙ sym (after-ups w p h1 hp es rule.near h hh)) (after-wide w p h1 hp 64 128 m m-lt)
    ∙ sym (after-xor w p h1 hp 128 (ups es h) m)

-- the halves of a number that is moved up: what goes over 64 bits, and what stays
moved-halves : (e x : ℕ) → e ≤ 64 → x / 2 ^ (64 - e) * 2 ^ 64 + x * 2 ^ e % 2 ^ 64 ≡ x * 2 ^ e
moved-halves e x n =
    let s : e + (64 - e) ≡ 64 = omega arith in
    let over : x * 2 ^ e / 2 ^ 64 ≡ x / 2 ^ (64 - e)
    = ap (λ (k : ℕ). x * 2 ^ e / 2 ^ k) (sym s) ∙ sym (shr-shr (x * 2 ^ e) e (64 - e)) ∙ ap (λ (z : ℕ). z / 2 ^ (64 - e)) (shl-shr x e) in
    ap (λ (z : ℕ). z * 2 ^ 64 + x * 2 ^ e % 2 ^ 64) (sym over) ∙ split (x * 2 ^ e) 64

-- the moves as the code adds them, one by one, to each half
pub moved : (es : List ℕ) → Near es → (h l c : ℕ) → c < 2 ^ 64
    → xors (λ e. h / 2 ^ (64 - e)) es l * 2 ^ 64 + xors (λ e. h * 2 ^ e % 2 ^ 64) es c ≡ bit_xor (ups es h) (l * 2 ^ 64 + c)
unfolding ups
moved [] near h l c hc = sym (xor_zero_l (l * 2 ^ 64 + c))
moved (e ∷ es) near h l c hc =
    let x : ℕ = h / 2 ^ (64 - e) in
    let y : ℕ = h * 2 ^ e % 2 ^ 64 in
    let u : ℕ = ups es h in
    let m : ℕ = l * 2 ^ 64 + c in
    let y-lt : y < 2 ^ 64 = mod-lt (h * 2 ^ e) (pow_pos 64) in
    moved es near.1 h (bit_xor l x) (bit_xor c y) (xor_lt 64 c y hc y-lt)
    ∙ ap (bit_xor u) (sym (xor_block 64 l x c y hc y-lt) ∙ ap (bit_xor m) (moved-halves e h near.0) ∙ xor_comm m (h * 2 ^ e))
    ∙ sym (xor_assoc u (h * 2 ^ e) m)
    ∙ ap (λ (z : ℕ). bit_xor z m) (xor_comm u (h * 2 ^ e))

-- ---- a register from 64 bits by moves down and moves up

xors-xor : (f g h : ℕ → ℕ) → ((e : ℕ) → h e ≡ bit_xor (f e) (g e)) → (es : List ℕ) (x y : ℕ) → xors h es (bit_xor x y) ≡ bit_xor (xors f es x) (xors g es y)
xors-xor f g h r [] x y = refl
xors-xor f g h r (e ∷ es) x y =
    ap (xors h es) (ap (bit_xor (bit_xor x y)) (r e) ∙ xor-four x y (f e) (g e)) ∙ xors-xor f g h r es (bit_xor x (f e)) (bit_xor y (g e))

-- moves down, one group after the other: by its counts, each so many times
abbrev pub through : List (ℕ × List ℕ) → ℕ → ℕ
through [] x = x
through (st ∷ sts) x = through sts (spread st.0 st.1 x)

through-xor : (sts : List (ℕ × List ℕ)) → Linear (through sts)
through-xor [] x y = refl
through-xor (st ∷ sts) x y =
    ap (through sts)
    (xors-xor (λ e. x / 2 ^ (e * st.0)) (λ e. y / 2 ^ (e * st.0)) (λ e. bit_xor x y / 2 ^ (e * st.0)) (λ e. xor_shr x y (e * st.0)) st.1 x y)
    ∙ through-xor sts (spread st.0 st.1 x) (spread st.0 st.1 y)

-- at each power of two from k on f is r, shifted once more each time
abbrev pub powers : (ℕ → ℕ) → ℕ → ℕ → ℕ → ℕ → ℕ → Bool
powers f w p zero k r = true
powers f w p (suc n) k r = both (eqb (f (2 ^ k)) r) (powers f w p n (suc k) (shift w p r))

powers-are : (f : ℕ → ℕ) (w p n k r : ℕ) → T (powers f w p n k r) → (j : ℕ) → j < n → f (2 ^ (k + j)) ≡ shifts w p j r
unfolding shifts
powers-are f w p zero k r t j l = absurd (omega arith)
powers-are f w p (suc n) k r t zero l = ap (λ (m : ℕ). f (2 ^ m)) (add-zero k) ∙ eqb→eq (f (2 ^ k)) r (both_left (eqb (f (2 ^ k)) r) (powers f w p n (suc k) (shift w p r)) t)
powers-are f w p (suc n) k r t (suc j) l =
    let e : k + suc j ≡ suc k + j = omega arith in
    ap (λ (m : ℕ). f (2 ^ m)) e ∙ powers-are f w p n (suc k) (shift w p r) (both_right (eqb (f (2 ^ k)) r) (powers f w p n (suc k) (shift w p r)) t) j (omega arith)

-- the quotient, and what the polynomial times it leaves
abbrev pub product : ℕ → List ℕ → ℕ → ℕ
product w es q = xors (λ e. q * 2 ^ e % 2 ^ 64) es q % 2 ^ w

product-xor : (w : ℕ) (es : List ℕ) → Linear (product w es)
product-xor w es x y =
    let low : (z e : ℕ) → ℕ = λ z e. z * 2 ^ e % 2 ^ 64 in
    ap (λ (z : ℕ). z % 2 ^ w)
    (xors-xor (low x) (low y) (low (bit_xor x y)) (λ e. ap (λ (z : ℕ). z % 2 ^ 64) (sym (xor-shl e x y)) ∙ xor_mod (x * 2 ^ e) (y * 2 ^ e) 64) es x y)
    ∙ xor_mod (xors (low x) es x) (xors (low y) es y) w

abbrev pub circuit : ℕ → List (ℕ × List ℕ) → List ℕ → ℕ → ℕ
circuit w sts es x = product w es (through sts x)

pub circuit-is : (w p : ℕ) → 1 ≤ w → p < 2 ^ w → (sts : List (ℕ × List ℕ)) (es : List ℕ) → circuit w sts es 0 ≡ 0
    → T (powers (circuit w sts es) w p 64 0 (after w p 1 1)) → (x : ℕ) → x < 2 ^ 64 → circuit w sts es x ≡ after w p 64 x
circuit-is w p h1 hp sts es z t =
    agree (circuit w sts es) (after w p 64)
    (λ x y. ap (product w es) (through-xor sts x y) ∙ product-xor w es (through sts x) (through sts y))
    (after-xor w p h1 hp 64)
    (z ∙ sym (after_none w p h1 hp 64))
    64
    (λ k l. ap (λ (m : ℕ). circuit w sts es (2 ^ m)) (sym (zero-add k)) ∙ powers-are (circuit w sts es) w p 64 0 (after w p 1 1) t k l ∙ sym (after-power w p h1 hp k l))
