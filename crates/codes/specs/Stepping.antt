-- Serves proofs, and is proved: a mask walked from set bit to set bit. It stands at the top of 64 bits; the leading zeros are the position of its first satellite.
use Rattle.std.specs.Prelude.{◌≡◌, refl, Bool, true, false, List, [], ◌∷◌, ◌++◌, ℕ, zero, suc, ◌+◌, ◌-◌, ◌*◌, ◌/◌, ◌%◌, ◌^◌, ◌≤◌, ◌<◌, eqb, length}
use Rattle.std.proofs.Common.{ap, ap₂, sym, ◌∙◌, subst, append-nil, add-zero, mod-lt, pow-suc, arith, eq-eqb, ne_eqb, pow_pos, shl_lt, shr_lt}
use Rattle.std.proofs.Math.Nat.{div-eq_of_lt}
use Rattle.std.specs.Int.Count.{ones, count_leading_zeros, leading_of_zero}
use Rattle.std.proofs.lemmas.Nat.{ones_cat, leading_le, leading_top, mod-pow-add, shl-shr}
use Rattle.std.proofs.Math.Pow.{high, low, split}
use Rattle.bits.specs.Bits.{bits_of}
use Rattle.bits.specs.Laws.{one_shl, length-bits_of, bits_of-add, bits_of-low, bits_of-mod}
use Rattle.layout.specs.Layout.{pick}
use Rattle.codes.specs.declared.Constellation.{Constellation}
use Rattle.codes.specs.declared.satellites.Step.{Step}
use Rattle.codes.specs.Tables.{mask_size, first_satellite}
use Rattle.codes.specs.Sizes.{mask_word}
use Rattle.codes.specs.Fields.{numbered, satellites_of}

-- a mask of a width, at the top of 64 bits
abbrev pub aligned_to : (width mask : ℕ) → ℕ
aligned_to width mask = mask % 2 ^ width * 2 ^ (64 - width)

-- the mask without its first set bit
abbrev pub without_first : ℕ → ℕ
without_first left = left - 2 ^ (63 - count_leading_zeros 64 left)

-- ---- the numbers of the set bits of a list of bits, the first numbered `first`

set_in : ℕ → List ℕ → List ℕ
set_in first [] = []
set_in first (b ∷ bs) = pick (eqb b 1) (first ∷ set_in (suc first) bs) (set_in (suc first) bs)

in-bits : (first w mask : ℕ) → numbered first w mask ≡ set_in first (bits_of w mask)
unfolding numbered bits_of set_in
in-bits first zero mask = refl
in-bits first (suc w) mask =
    ap (λ l. pick (eqb (mask / 2 ^ w % 2) 1) (first ∷ l) l) (in-bits (suc first) w mask)

-- bits above the width do not count
numbered-low : (first w x y : ℕ) → numbered first w (x * 2 ^ w + y) ≡ numbered first w y
numbered-low first w x y = in-bits first w (x * 2 ^ w + y) ∙ ap (set_in first) (bits_of-low w x y) ∙ sym (in-bits first w y)

numbered-mod : (first w mask : ℕ) → numbered first w mask ≡ numbered first w (mask % 2 ^ w)
numbered-mod first w mask = in-bits first w mask ∙ ap (set_in first) (bits_of-mod w mask) ∙ sym (in-bits first w (mask % 2 ^ w))

set-append : (first : ℕ) (xs ys : List ℕ) → set_in first (xs ++ ys) ≡ set_in first xs ++ set_in (first + length xs) ys
unfolding set_in
set-append first [] ys = ap (λ x. set_in x ys) (omega arith)
set-append first (b ∷ xs) ys = go (eqb b 1) (set-append (suc first) xs ys ∙ ap (λ x. set_in (suc first) xs ++ set_in x ys) (omega arith))
  where
    go : (t : Bool) → set_in (suc first) (xs ++ ys) ≡ set_in (suc first) xs ++ set_in (first + suc (length xs)) ys
        → pick t (first ∷ set_in (suc first) (xs ++ ys)) (set_in (suc first) (xs ++ ys))
        ≡ pick t (first ∷ set_in (suc first) xs) (set_in (suc first) xs) ++ set_in (first + suc (length xs)) ys
    go true e = ap (λ l. first ∷ l) e
    go false e = e

-- the upper bits, and then the lower ones
numbered-parts : (first a b n : ℕ) → numbered first (a + b) n ≡ numbered first a (n / 2 ^ b) ++ numbered (first + a) b n
numbered-parts first a b n =
    in-bits first (a + b) n ∙ ap (set_in first) (bits_of-add a b n) ∙ set-append first (bits_of a (n / 2 ^ b)) (bits_of b n)
    ∙ ap₂ (λ l k. l ++ k) (sym (in-bits first a (n / 2 ^ b)))
    (ap (λ x. set_in (first + x) (bits_of b n)) (length-bits_of a (n / 2 ^ b)) ∙ sym (in-bits (first + a) b n))

zero-div : (w : ℕ) → 0 / 2 ^ w ≡ 0
zero-div w = div-eq_of_lt (pow_pos w)

pub none-set : (first w : ℕ) → numbered first w 0 ≡ []
unfolding numbered
none-set first zero = refl
none-set first (suc w) = rw (ne_eqb (0 / 2 ^ w % 2) 1 (λ z. omega (arith, ap (λ x. x % 2) (zero-div w)))) (none-set (suc first) w)

-- leading zeros add nothing but to the numbers
zeros-first : (first z w left : ℕ) → left < 2 ^ w → numbered first (z + w) left ≡ numbered (first + z) w left
zeros-first first z w left h =
    numbered-parts first z w left ∙ ap (λ l. l ++ numbered (first + z) w left) (ap (numbered first z) (div-eq_of_lt h) ∙ none-set first z)

-- ---- a mask and what it is at the top of 64 bits

aligned-zeros : (first w z m : ℕ) → numbered first (w + z) (m * 2 ^ z) ≡ numbered first w m
aligned-zeros first w z m =
    numbered-parts first w z (m * 2 ^ z)
    ∙ ap₂ (λ x l. numbered first w x ++ l) (shl-shr m z) (ap (numbered (first + w) z) (sym (add-zero (m * 2 ^ z))) ∙ numbered-low (first + w) z m 0 ∙ none-set (first + w) z)
    ∙ append-nil (numbered first w m)

pub aligned-same : (first width mask : ℕ) → width ≤ 64 → numbered first 64 (aligned_to width mask) ≡ numbered first width mask
aligned-same first width mask h =
    ap (λ w. numbered first w (aligned_to width mask)) {x = 64} {y = width + (64 - width)} (omega arith)
    ∙ aligned-zeros first width (64 - width) (mask % 2 ^ width) ∙ sym (numbered-mod first width mask)

pub aligned-fits : (width mask : ℕ) → width ≤ 64 → aligned_to width mask < 2 ^ 64
aligned-fits width mask h =
    subst (λ x. aligned_to width mask < 2 ^ x) {x = width + (64 - width)} {y = 64} (omega arith) (shl_lt {a = mask % 2 ^ width} width (64 - width) (mod-lt mask (pow_pos width)))

-- ---- how many there are

pub counted : (first w mask : ℕ) → mask < 2 ^ w → length (numbered first w mask) ≡ ones mask
unfolding numbered ones
counted first zero mask h = ap ones {x = 0} {y = mask} (omega arith)
counted first (suc w) mask h =
    let b : ℕ = mask / 2 ^ w in
    let r : ℕ = mask % 2 ^ w in
    let small : b < 2 = shr_lt {n = mask} 1 w (subst (λ x. mask < 2 ^ x) {x = suc w} {y = 1 + w} (omega arith) h) in
    let rest : length (numbered (suc first) w mask) ≡ ones r = ap length (numbered-mod (suc first) w mask) ∙ counted (suc first) w r (mod-lt mask (pow_pos w)) in
    let sum : ones mask ≡ ones b + ones r = ap ones (sym (split mask w)) ∙ ones_cat w b r (mod-lt mask (pow_pos w)) in
    go b small (ones r) rest ∙ sym sum
  where
    go : (b : ℕ) → b < 2 → (n : ℕ) → length (numbered (suc first) w mask) ≡ n
        → length (pick (eqb (b % 2) 1) (first ∷ numbered (suc first) w mask) (numbered (suc first) w mask)) ≡ ones b + n
    go zero h n e = e ∙ omega arith
    go (suc zero) h n e = ap suc e ∙ omega arith
    go (suc (suc b)) h n e = absurd (omega arith)

pub some-bit : (left n : ℕ) → ones left ≡ suc n → 0 < left
unfolding ones
some-bit zero n e = absurd (omega arith)
some-bit (suc left) n e = omega arith

-- ---- a turn of a loop over the set bits: the position of the first one, and the mask without it

pub record Turn (first left : ℕ) (one : Step) : Type 0 where
  pub near : one.position ≤ 63
  pub list : numbered first 64 left ≡ (first + one.position) ∷ numbered first 64 one.left
  pub fewer : one.left < left
  pub bits : ones left ≡ suc (ones one.left)

abbrev first_of : ℕ → Step
first_of left = record { position = count_leading_zeros 64 left; left = without_first left }

first-set : (first j left : ℕ) → left / 2 ^ j % 2 ≡ 1 → numbered first (suc j) left ≡ first ∷ numbered (suc first) j left
unfolding numbered
first-set first j left e = rw (eq-eqb (left / 2 ^ j % 2) 1 e)

-- the first set bit is at most the mask
first_below : (left : ℕ) → 0 < left → left < 2 ^ 64 → 2 ^ (63 - count_leading_zeros 64 left) ≤ left
first_below left p h =
    let t = leading_top 64 left p h in
    subst (λ x. 2 ^ x ≤ left) {x = t.0} {y = 63 - count_leading_zeros 64 left} (omega (arith, t.1)) t.2

step : (first left : ℕ) → 0 < left → left < 2 ^ 64 → Turn first left (first_of left)
step first left p h =
    let t = leading_top 64 left p h in
    let z : ℕ = count_leading_zeros 64 left in
    let j : ℕ = t.0 in
    let e : 63 - z ≡ j = omega (arith, t.1) in
    let r : ℕ = left - 2 ^ j in
    let same : left ≡ 1 * 2 ^ j + r = omega (arith, t.2) in
    let small : r < 2 ^ j = omega (arith, t.3, pow-suc 2 j) in
    let bit : left / 2 ^ j % 2 ≡ 1 = ap (λ x. x / 2 ^ j % 2) same ∙ ap (λ x. x % 2) (high 1 j {lo = r} small) in
    let tail : numbered (suc (first + z)) j left ≡ numbered first 64 r
    = ap (numbered (suc (first + z)) j) same ∙ numbered-low (suc (first + z)) j 1 r
    ∙ ap (λ x. numbered x j r) {x = suc (first + z)} {y = first + suc z} (omega arith) ∙ sym (zeros-first first (suc z) j r small)
    ∙ ap (λ w. numbered first w r) {x = suc z + j} {y = 64} (omega (arith, t.1)) in
    let whole : numbered first 64 left ≡ (first + z) ∷ numbered first 64 r
    = ap (λ w. numbered first w left) {x = 64} {y = z + suc j} (omega (arith, t.1)) ∙ zeros-first first z (suc j) left t.3
    ∙ first-set (first + z) j left bit ∙ ap (λ l. (first + z) ∷ l) tail in
    let list : numbered first 64 left ≡ (first + z) ∷ numbered first 64 (without_first left)
    = whole ∙ ap (λ x. (first + z) ∷ numbered first 64 (left - 2 ^ x)) (sym e) in
    let fewer : without_first left < left = subst (λ x. left - 2 ^ x < left) (sym e) (omega (arith, t.2, pow_pos j)) in
    record {
      near = omega (arith, t.1);
      list = list;
      fewer = fewer;
      bits = sym (counted first 64 left h) ∙ ap length list ∙ ap suc (counted first 64 (without_first left) (omega (arith, fewer)));
    }

pub turn : (first left : ℕ) (one : Step) → one ≡ record { position = count_leading_zeros 64 left; left = without_first left } → 0 < left → left < 2 ^ 64 → Turn first left one
turn first left one e p h = subst (λ (x : Step). Turn first left x) (sym e) (step first left p h)

-- a satellite's number is a small one
pub turn-number : {first left : ℕ} {one : Step} → Turn first left one → first ≤ 193 → first + one.position < 2 ^ 64
turn-number t h = omega (arith, t.near)

-- ---- the law of the walk, over the width: the positions that leading zeros find are those of the mask's set bits, in order

-- the positions that so many steps find, the first of the 64 numbered `first`
unfoldable pub walked : (first steps left : ℕ) → List ℕ
walked first zero left = []
walked first (suc steps) left = (first + count_leading_zeros 64 left) ∷ walked first steps (without_first left)

no_length : (ms : List ℕ) → length ms ≡ 0 → ms ≡ []
no_length [] e = refl
no_length (m ∷ ms) e = absurd (omega arith)

walked_from : (first steps left : ℕ) → left < 2 ^ 64 → ones left ≡ steps → walked first steps left ≡ numbered first 64 left
unfolding walked
walked_from first zero left h e = sym (no_length (numbered first 64 left) (counted first 64 left h ∙ e))
walked_from first (suc steps) left h e =
    let some : 0 < left = some-bit left steps e in
    let s : Turn first left (first_of left) = step first left some h in
    let rest : ones (without_first left) ≡ steps = omega (arith, s.bits) in
    ap (λ l. (first + count_leading_zeros 64 left) ∷ l) (walked_from first steps (without_first left) (omega (arith, s.fewer)) rest) ∙ sym s.list

pub walked-in-order : (first width mask : ℕ) → width ≤ 64 → walked first (ones (aligned_to width mask)) (aligned_to width mask) ≡ numbered first width mask
walked-in-order first width mask h =
    walked_from first (ones (aligned_to width mask)) (aligned_to width mask) (aligned-fits width mask h) refl ∙ aligned-same first width mask h

-- ---- a mask of a size

module _ (c : Constellation) (size mask top : ℕ) (e : top ≡ aligned_to (mask_size c size) mask) where
  pub top-fits : top < 2 ^ 64
  top-fits = subst (λ x. x < 2 ^ 64) (sym e) (aligned-fits (mask_size c size) mask (mask_word c size).most)

  pub top-listed : numbered (first_satellite c) 64 top ≡ satellites_of c size mask
  top-listed = ap (numbered (first_satellite c) 64) e ∙ aligned-same (first_satellite c) (mask_size c size) mask (mask_word c size).most

  pub top-counted : (n : ℕ) → n ≡ ones top → n ≡ length (satellites_of c size mask)
  top-counted n q = q ∙ sym (counted (first_satellite c) 64 top top-fits) ∙ ap length top-listed

-- ---- the needs of the code

mod-up : (n w k : ℕ) → n * 2 ^ k % 2 ^ (w + k) ≡ n % 2 ^ w * 2 ^ k
mod-up n w k =
    mod-pow-add (n * 2 ^ k) w k ∙ ap₂ (λ x y. x % 2 ^ w * 2 ^ k + y) (shl-shr n k) (ap (λ x. x % 2 ^ k) (sym (add-zero (n * 2 ^ k))) ∙ low n k {lo = 0} (pow_pos k)) ∙ add-zero (n % 2 ^ w * 2 ^ k)

pub position-fits : (left : ℕ) → count_leading_zeros 64 left < 2 ^ 64
position-fits left = omega (arith, leading_le 64 left)

pub no-set : (left : ℕ) → left ≡ 0 → ◌≡◌ {A = Step} (record { position = 64; left = 0 }) (record { position = count_leading_zeros 64 left; left = without_first left })
no-set left e = ap₂ (λ x y. record { position = x; left = y }) (sym (leading_of_zero 64) ∙ ap (count_leading_zeros 64) (sym e)) (omega (arith, e))

module _ (left : ℕ) (n : left ≡ 0 → ⊥) (h : left < 2 ^ 64) where
  pub position-small : count_leading_zeros 64 left ≤ 63
  position-small = (step 0 left (omega arith) h).near

  power : 1 * 2 ^ (63 - count_leading_zeros 64 left) % 2 ^ 64 ≡ 2 ^ (63 - count_leading_zeros 64 left)
  power = one_shl (63 - count_leading_zeros 64 left) (omega arith)

  pub power_below : 1 * 2 ^ (63 - count_leading_zeros 64 left) % 2 ^ 64 ≤ left
  power_below = rw power (first_below left (omega arith) h)

  pub set_next : ◌≡◌ {A = Step} (record { position = count_leading_zeros 64 left; left = left - 1 * 2 ^ (63 - count_leading_zeros 64 left) % 2 ^ 64 }) (record { position = count_leading_zeros 64 left; left = without_first left })
  set_next = ap (λ x. record { position = count_leading_zeros 64 left; left = left - x }) power

module _ (c : Constellation) (size : ℕ) (width : ℕ) (e : width ≡ mask_size c size) where
  pub up_fits : width ≤ 64
  up_fits = omega (arith, (mask_word c size).most)

  pub up-shift : 64 - width < 64
  up-shift = omega (arith, (mask_word c size).some)

  pub up : (mask : ℕ) → mask * 2 ^ (64 - width) % 2 ^ 64 ≡ aligned_to (mask_size c size) mask
  up mask =
      ap (λ x. mask * 2 ^ (64 - width) % 2 ^ x) {x = 64} {y = width + (64 - width)} (omega (arith, up_fits))
      ∙ mod-up mask width (64 - width) ∙ ap (λ w. aligned_to w mask) e
