-- What the small readers of fields return, in plain variables. Assumes nothing.
use mathlib.Core.Path.{◌≡◌, sym, ap, ap₂, subst, ◌∙◌}
use mathlib.Core.List.{List}
use mathlib.Core.Bool.{true, false}
use Prim.Native.Nat.{ℕ, ◌+◌, ◌-◌, ◌*◌, ◌/◌, ◌%◌, ◌^◌, ◌≤◌, ◌<◌}
use native.Mathlib.Nat.{mod-lt, lt_of_lt_of_le}
use native.Mathlib.Omega.{arith}
use lib.Dec.{ltb, eqb}
use lib.ListN.{length, get_or}
use lib.Pow.{pow_pos, pow_mono}
use mir.Syntax.{w8}
use mir.Val.{Fits}
use borrow.Author.Tests.{ne_eqb, eq-eqb}
use Rattle.bits.specs.Bits.{field}
use Rattle.bits.specs.Laws.{field_lt, field-split, field-part, field-byte, field_out, one_shl}
use Rattle.frame.specs.Fields.{tf003, tf004, tf008, tf015, authenticated}

pub part-some : (w : ℕ) → w < 64 → 0 < 1 * 2 ^ w % 2 ^ 64
part-some w h = subst (λ (x : ℕ). 0 < x) (sym (one_shl w h)) (pow_pos w)

pub part-is : (x w : ℕ) → w < 64 → x % (1 * 2 ^ w % 2 ^ 64) ≡ x % 2 ^ w
part-is x w h = ap (λ (y : ℕ). x % y) (one_shl w h)

-- some bits of a byte, and of two
module _ (s : List ℕ) (bytes : (i : ℕ) → Fits w8 (get_or s i 0)) (pos w : ℕ) (some : 1 ≤ w) (here : pos + w ≤ 8 * length s) where
  byte_at : (i : ℕ) → i < length s → field s (8 * i) 8 ≡ get_or s i 0
  byte_at i h = field-byte (record { byte = λ k. (bytes k).fits }) i h

  in_one : pos % 8 + w ≤ 8 → get_or s (pos / 8) 0 / 2 ^ (8 - pos % 8 - w) % 2 ^ w ≡ field s pos w
  in_one h =
      let i : ℕ = pos / 8 in
      let o : ℕ = pos % 8 in
      let m : ℕ = 8 - o - w in
      let e : o + (w + m) ≡ 8 = omega arith in
      let p : 8 * i + o ≡ pos = omega arith in
      ap (λ (x : ℕ). x / 2 ^ m % 2 ^ w) (sym (byte_at i (omega arith)) ∙ ap (field s (8 * i)) (sym e))
      ∙ sym (field-part s (8 * i) o w m (omega arith))
      ∙ ap (λ (x : ℕ). field s x w) p

  in_two : w ≤ 8 → 8 < pos % 8 + w → (get_or s (pos / 8) 0 * 256 + get_or s (pos / 8 + 1) 0) / 2 ^ (16 - pos % 8 - w) % 2 ^ w ≡ field s pos w
  in_two k h =
      let i : ℕ = pos / 8 in
      let o : ℕ = pos % 8 in
      let m : ℕ = 16 - o - w in
      let e : o + (w + m) ≡ 16 = omega arith in
      let p : 8 * i + o ≡ pos = omega arith in
      let n : 8 * (i + 1) ≡ 8 * i + 8 = omega arith in
      ap (λ (x : ℕ). x / 2 ^ m % 2 ^ w)
      (ap₂ (λ (a b : ℕ). a * 256 + b) (sym (byte_at i (omega arith))) (sym (byte_at (i + 1) (omega arith)) ∙ ap (λ (x : ℕ). field s x 8) n)
      ∙ sym (field-split s (8 * i) 8 8 (omega arith)) ∙ ap (field s (8 * i)) (sym e))
      ∙ sym (field-part s (8 * i) o w m (omega arith))
      ∙ ap (λ (x : ℕ). field s x w) p

pub octet-fits : (x y w : ℕ) → x ≡ y % 2 ^ w → w ≤ 8 → x < 256
octet-fits x y w e h = subst (λ (z : ℕ). z < 256) (sym e) (lt_of_lt_of_le (mod-lt y (pow_pos w)) (pow_mono {i = w} {j = 8} h))

pub small-fits : (x y w r : ℕ) → r ≡ x → x ≡ y % 2 ^ w → r < 2 ^ w
small-fits x y w r er ex = subst (λ (z : ℕ). z < 2 ^ w) (sym (er ∙ ex)) (mod-lt y (pow_pos w))

-- as `small_at` reads them
module _ (s : List ℕ) (bytes : (i : ℕ) → Fits w8 (get_or s i 0)) (pos w r : ℕ) (some : 1 ≤ w) (here : pos + w ≤ 8 * length s) where
  pub small_one : (y from b : ℕ) → r ≡ y → y ≡ b / 2 ^ (8 - from - w) % 2 ^ w → from ≡ pos % 8 → b ≡ get_or s (pos / 8) 0 → from + w ≤ 8 → r ≡ field s pos w
  small_one y from b er ey ef eb h =
      er ∙ ey ∙ ap₂ (λ (x k : ℕ). x / 2 ^ (8 - k - w) % 2 ^ w) eb ef ∙ in_one s bytes pos w some here (subst (λ (k : ℕ). k + w ≤ 8) ef h)

  pub small-two : (y from b c : ℕ) → r ≡ y → y ≡ (b * 256 + c) / 2 ^ (16 - from - w) % 2 ^ w → from ≡ pos % 8 → b ≡ get_or s (pos / 8) 0 → c ≡ get_or s (pos / 8 + 1) 0
      → w ≤ 8 → 8 < from + w → r ≡ field s pos w
  small-two y from b c er ey ef eb ec k h =
      er ∙ ey ∙ ap₂ (λ (x n : ℕ). x / 2 ^ (16 - n - w) % 2 ^ w) (ap₂ (λ (m n : ℕ). m * 256 + n) eb ec) ef
      ∙ in_two s bytes pos w some here k (subst (λ (n : ℕ). 8 < n + w) ef h)

-- TF008 is not there yet
pub kind-absent : (s : List ℕ) → length s < 5 → (0 ≡ tf008 s) × (0 < 2)
kind-absent s h = (sym (field_out s 36 1 (omega arith)), omega arith)

pub not-sealed : (s : List ℕ) (x : ℕ) → x ≡ tf004 s → (x ≡ 1 → ⊥) → false ≡ authenticated s
unfolding authenticated
not-sealed s x e h = let n : eqb (tf004 s) 1 ≡ false = ne_eqb (tf004 s) 1 (λ z. h (e ∙ z)) in rw n

pub is-sealed : (s : List ℕ) (x k y : ℕ) → x ≡ tf004 s → x ≡ 1 → k ≡ tf008 s → y ≡ field s (58 + (16 + 16 * k)) 3 → ltb 1 y ≡ authenticated s
unfolding authenticated
is-sealed s x k y e h ek ey =
    let n : eqb (tf004 s) 1 ≡ true = eq-eqb (tf004 s) 1 (sym e ∙ h) in
    rw n (ap (λ (z : ℕ). ltb 1 z) (ey ∙ ap (λ (z : ℕ). field s (58 + (16 + 16 * z)) 3) ek))

-- TF003 lies in three bytes
module _ (s : List ℕ) (a b c x y z : ℕ) (h : 4 ≤ length s) (ea : a ≡ field s 15 1) (eb : b ≡ field s 16 8) (ec : c ≡ field s 24 1) (ex : x ≡ a) (ey : y ≡ b) (ez : z ≡ c) where
  pub length-is : x * 512 + (y * 2 + z) ≡ tf003 s
  length-is =
      ap₂ (λ (m n : ℕ). m * 2 ^ 9 + n) (ex ∙ ea) (ap₂ (λ (m n : ℕ). m * 2 ^ 1 + n) (ey ∙ eb) (ez ∙ ec) ∙ sym (field-split s 16 8 1 (omega arith)))
      ∙ sym (field-split s 15 1 9 (omega arith))

  pub length-lt : x * 512 + (y * 2 + z) < 1024
  length-lt = subst (λ (n : ℕ). n < 1024) (sym length-is) (field_lt s 15 10)

-- the last of eight bytes
pub tail-is : (s : List ℕ) (at size x y n : ℕ) → 8 ≤ at → size ≤ 4 → at + size ≤ length s → y ≡ x / 2 ^ 0 % 2 ^ n → n ≡ 8 * size
    → x ≡ field s (8 * (at + size - 8)) 64 → y ≡ field s (8 * at) (8 * size)
tail-is s at size x y n h k l ey en ex =
    let pos : ℕ = 8 * (at + size - 8) in
    let w : ℕ = 8 * size in
    let o : ℕ = 64 - w in
    let e : o + (w + 0) ≡ 64 = omega arith in
    let p : pos + o ≡ 8 * at = omega arith in
    ey ∙ ap (λ (z : ℕ). x / 2 ^ 0 % 2 ^ z) en ∙ ap (λ (z : ℕ). z / 2 ^ 0 % 2 ^ w) (ex ∙ ap (field s pos) (sym e)) ∙ sym (field-part s pos o w 0 (omega arith)) ∙ ap (λ (z : ℕ). field s z w) p

pub length-field : (s : List ℕ) (k r : ℕ) → k ≡ tf008 s → r ≡ field s (61 + (16 + 16 * k)) 3 → r ≡ tf015 s
length-field s k r e h = h ∙ ap (λ (z : ℕ). field s (61 + (16 + 16 * z)) 3) e
