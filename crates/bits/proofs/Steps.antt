-- Serves proofs, and is proved: one law for each step of the code, in the code's own terms. Assumes nothing.
use mathlib.Core.Bool.{Bool, true, false, not}
use mathlib.Core.Path.{◌≡◌, refl, sym, ap, ap₂, ◌∙◌, subst}
use mathlib.Core.List.{List, [], ◌++◌}
use Prim.Native.Nat.{ℕ, suc, ◌+◌, ◌-◌, ◌*◌, ◌/◌, ◌%◌, ◌^◌, ◌≤◌, ◌<◌}
use native.Mathlib.Nat.{add-zero, div-one, mod-lt}
use native.Mathlib.Omega.{arith}
use borrow.Author.Tests.{not-true, not-false}
use lib.Bits.{bit_and, bit_or, and_high, and_mask}
use lib.ListN.{length, get_or, set, take, drop, length-set, length-drop, take-append-drop}
use lib.Seq.{drop-drop, length-take-le}
use lib.Pow.{pow_pos, shl_exact, shl-shr, shr_lt, shr-shr, split, high, high_ones, mod-pow-add, ones_lt, ones_split}
use lib.Pow.{field as middle}
use borrow.Rule.Slice.PartMut.{put_mid}
use mir.Syntax.{w8, w64}
use mir.Val.{Fits}
use Rattle.std.proofs.lemmas.List.{take_all}
use Rattle.std.specs.Simd.{first_chunks}
use Rattle.std.specs.Int.{from_be_bytes, to_be_bytes}
use Rattle.bits.specs.Bits.{to_bits, bits_of, number, Bytes, field, there, got, put_to, leaves}
use Rattle.bits.specs.Laws.{placed, InOneWord, more_lt, appended, byte_put, field-byte, field_lt, field-part, field-split, length-to_bits, to_bits-append, to_bits-take, to_bits-drop, bytes_take, bytes_drop, bytes-number, number-bytes, is-there, not_there, there-width, there-end, got-there, got-not, leaves-there, leaves-not, put_back, put-join, put-mod}

-- ---- words

three-parts : (v n m : ℕ) → v / 2 ^ (n + m) * 2 ^ (n + m) + (v / 2 ^ m % 2 ^ n * 2 ^ m + v % 2 ^ m) ≡ v
three-parts v n m = ap (λ (z : ℕ). v / 2 ^ (n + m) * 2 ^ (n + m) + z) (sym (mod-pow-add v n m)) ∙ split v (n + m)

-- the number v with the n bits above its m low ones put to x, as the code reckons it
pub put_word : (v n m x : ℕ) → v - v / 2 ^ m % 2 ^ n * 2 ^ m + x * 2 ^ m ≡ placed v n m x
put_word v n m x = let e = three-parts v n m in omega arith

pub old-le : (v n m : ℕ) → v / 2 ^ m % 2 ^ n * 2 ^ m ≤ v
old-le v n m = let e = three-parts v n m in omega arith

-- it fits where v does
pub new-lt : (o n m v x : ℕ) → x < 2 ^ n → v < 2 ^ (o + (n + m)) → placed v n m x < 2 ^ (o + (n + m))
new-lt o n m v x hx h = more_lt o (n + m) (shr_lt o (n + m) h) (more_lt n m hx (mod-lt v (pow_pos m)))

-- `0xFFFF_FFFF_FFFF_FFFF >> (64 - n)`
pub ones-down : (n : ℕ) → n ≤ 64 → (2 ^ 64 - 1) / 2 ^ (64 - n) ≡ 2 ^ n - 1
ones-down n h =
    let k : ℕ = 64 - n in
    let all : 64 ≡ n + k = omega arith in
    ap (λ (z : ℕ). (2 ^ z - 1) / 2 ^ k) all ∙ ap (λ (z : ℕ). z / 2 ^ k) (ones_split n k) ∙ high (2 ^ n - 1) k (ones_lt k)

-- `v & (mask << m)`
pub old-bits : (v n m mask : ℕ) → mask ≡ 2 ^ n - 1 → n + m ≤ 64 → bit_and v (mask * 2 ^ m % 2 ^ 64) ≡ v / 2 ^ m % 2 ^ n * 2 ^ m
old-bits v n m mask e h =
    ap (λ (z : ℕ). bit_and v z) (ap (λ (z : ℕ). z * 2 ^ m % 2 ^ 64) e ∙ shl_exact n m 64 (ones_lt n) h ∙ sym (high_ones n m)) ∙ and_high v n m

-- `(code & mask) << m`
pub new-code : (code n m mask : ℕ) → mask ≡ 2 ^ n - 1 → n + m ≤ 64 → bit_and code mask * 2 ^ m % 2 ^ 64 ≡ code % 2 ^ n * 2 ^ m
new-code code n m mask e h =
    ap (λ (z : ℕ). z * 2 ^ m % 2 ^ 64) (ap (λ (z : ℕ). bit_and code z) e ∙ and_mask code n) ∙ shl_exact n m 64 (mod-lt code (pow_pos n)) h

-- `v - (v & (mask << m)) + ((code & mask) << m)`
module _ (v n m code mask : ℕ) (ones : mask ≡ 2 ^ n - 1) (all : n + m ≤ 64) where
  pub old-under : bit_and v (mask * 2 ^ m % 2 ^ 64) ≤ v
  old-under = omega (arith, old-bits v n m mask ones all, old-le v n m)

  pub word-placed : v - bit_and v (mask * 2 ^ m % 2 ^ 64) + bit_and code mask * 2 ^ m % 2 ^ 64 ≡ placed v n m (code % 2 ^ n)
  word-placed =
      ap₂ (λ (y z : ℕ). v - y + z) (old-bits v n m mask ones all) (new-code code n m mask ones all) ∙ put_word v n m (code % 2 ^ n)

  pub word_fits : v < 2 ^ 64 → v - bit_and v (mask * 2 ^ m % 2 ^ 64) + bit_and code mask * 2 ^ m % 2 ^ 64 < 2 ^ 64
  word_fits h =
      let o : ℕ = 64 - (n + m) in
      let e : o + (n + m) ≡ 64 = omega arith in
      let small : v < 2 ^ (o + (n + m)) = rw e h in
      omega (arith, word-placed, rw e at (new-lt o n m v (code % 2 ^ n) (mod-lt code (pow_pos n)) small))

-- `(v << o) >> (64 - w)`
pub cut : (v o w m : ℕ) → o + (w + m) ≡ 64 → v * 2 ^ o % 2 ^ 64 / 2 ^ (64 - w) ≡ v / 2 ^ m % 2 ^ w
cut v o w m h =
    let all : 64 ≡ w + (o + m) = omega arith in
    let down : 64 - w ≡ o + m = omega arith in
    ap₂ (λ (y z : ℕ). v * 2 ^ o % 2 ^ y / 2 ^ z) all down
    ∙ middle (v * 2 ^ o) w (o + m)
    ∙ ap (λ (z : ℕ). z % 2 ^ w) (sym (shr-shr (v * 2 ^ o) o m) ∙ ap (λ (z : ℕ). z / 2 ^ m) (shl-shr v o))

-- ---- fields read

-- `(a << n) | f` of a field and the next
pub field-more : (s : List ℕ) (pos next k n a f : ℕ) → next ≡ pos + k → k + n ≤ 64 → pos + (k + n) ≤ 8 * length s
    → a ≡ field s pos k → f ≡ field s next n → bit_or (a * 2 ^ n % 2 ^ 64) f ≡ field s pos (k + n)
field-more s pos next k n a f at h fits ea ef =
    appended a f k n (subst (λ (z : ℕ). z < 2 ^ k) (sym ea) (field_lt s pos k)) (subst (λ (z : ℕ). z < 2 ^ n) (sym ef) (field_lt s next n)) h
    ∙ ap₂ (λ (y z : ℕ). y * 2 ^ n + z) ea (ef ∙ ap (λ (z : ℕ). field s z n) at)
    ∙ sym (field-split s pos k n fits)

-- n bits read out of byte q, which has o bits before them and m after them
pub field-in-byte : {s : List ℕ} → Bytes s → (p q o n m : ℕ) → p ≡ 8 * q + o → o + (n + m) ≡ 8 → q < length s
    → field s p n ≡ get_or s q 0 / 2 ^ m % 2 ^ n
field-in-byte {s} h p q o n m at all k =
    ap (λ (z : ℕ). field s z n) at
    ∙ field-part s (8 * q) o n m (omega arith)
    ∙ ap (λ (z : ℕ). z / 2 ^ m % 2 ^ n) (ap (λ (z : ℕ). field s (8 * q) z) all ∙ field-byte h q k)

-- ---- fields put

-- the low byte of a number is stored
pub store_low : (s : List ℕ) (q v x : ℕ) → v ≡ x % 256 → q < length s → to_bits (set s q v) ≡ put_to (to_bits s) (8 * q) 8 x
store_low s q v x e h = byte_put s q v h ∙ ap (λ (z : ℕ). put_to (to_bits s) (8 * q) 8 z) e ∙ put-mod (to_bits s) (8 * q) 8 x

-- n bits put into byte q, which has o bits before them and m after them
pub store-in-byte : {s : List ℕ} → Bytes s → (p q o n m code v : ℕ) → p ≡ 8 * q + o → o + (n + m) ≡ 8 → q < length s
    → v ≡ placed (get_or s q 0) n m (code % 2 ^ n) % 256
    → to_bits (set s q v) ≡ put_to (to_bits s) p n code
store-in-byte {s} h p q o n m code v at all k e =
    let x : ℕ = code % 2 ^ n in
    let l : List ℕ = to_bits s in
    let byte : get_or s q 0 ≡ field s (8 * q) (o + (n + m)) = sym (ap (λ (z : ℕ). field s (8 * q) z) all ∙ field-byte h q k) in
    store_low s q v (placed (get_or s q 0) n m x) e k
    ∙ ap₂ (λ (w b : ℕ). put_to l (8 * q) w (placed b n m x)) (sym all) byte
    ∙ put_back s (8 * q) o n m code (omega arith)
    ∙ ap (λ (z : ℕ). put_to l z n code) (sym at)

-- ---- `get` and `put` by one word

-- the bits that lie in the 64 bits from their first byte on
module _ (s : List ℕ) (pos w v : ℕ) (some : 0 < w) (ends : pos % 8 + w ≤ 64) (fits : pos / 8 + 8 ≤ length s) (word : v ≡ field s (8 * (pos / 8)) 64) where
  pub get-word : v * 2 ^ (pos % 8) % 2 ^ 64 / 2 ^ (64 - w) ≡ got s pos w
  get-word =
      let o : ℕ = pos % 8 in
      let m : ℕ = 64 - o - w in
      let all : 64 ≡ o + (w + m) = omega arith in
      let at : 8 * (pos / 8) + o ≡ pos = omega arith in
      cut v o w m (sym all)
      ∙ ap (λ (z : ℕ). z / 2 ^ m % 2 ^ w) (word ∙ ap (λ (z : ℕ). field s (8 * (pos / 8)) z) all)
      ∙ sym (field-part s (8 * (pos / 8)) o w m (omega arith))
      ∙ ap (λ (z : ℕ). field s z w) at
      ∙ sym (got-there s pos w (omega arith) (omega arith))

  pub put-in-word : (code r : ℕ) (t : List ℕ)
      → r ≡ placed v w (64 - pos % 8 - w) (code % 2 ^ w)
      → to_bits t ≡ put_to (to_bits s) (8 * (pos / 8)) 64 r
      → to_bits t ≡ leaves s pos w code
  put-in-word code r t er et =
      let x : ℕ = code % 2 ^ w in
      let l : List ℕ = to_bits s in
      let o : ℕ = pos % 8 in
      let m : ℕ = 64 - o - w in
      let p : ℕ = 8 * (pos / 8) in
      let all : 64 ≡ o + (w + m) = omega arith in
      let at : p + o ≡ pos = omega arith in
      et
      ∙ ap (λ (z : ℕ). put_to l p 64 z) (er ∙ ap (λ (z : ℕ). placed z w m x) word)
      ∙ ap (λ (k : ℕ). put_to l p k (placed (field s p k) w m x)) all
      ∙ put_back s p o w m code (omega arith)
      ∙ ap (λ (z : ℕ). put_to l z w code) at
      ∙ sym (leaves-there s pos w code (omega arith) (omega arith))

-- the same, where the test for one word says that they do
module _ {s : List ℕ} {pos w : ℕ} {r : Bool} (t : InOneWord s pos w r) (yes : r ≡ true) where
  says : (0 < w) × (pos % 8 + w ≤ 64) × (pos / 8 + 8 ≤ length s)
  says = t.says yes

  pub word-here : pos / 8 + 8 ≤ length s
  word-here = says.2

  pub word-there : true ≡ there s pos w
  word-there = let h = says in sym (is-there s pos w (omega arith) (omega arith))

  pub word_some : 0 < w
  word_some = says.0

  pub word_width : w ≤ 64
  word_width = let h = says in omega arith

  pub word-left : w ≤ 64 - pos % 8
  word-left = let h = says in omega arith

  pub word-all : w + (64 - pos % 8 - w) ≤ 64
  word-all = let h = says in omega arith

  pub word-shift : 64 - w < 64
  word-shift = let h = says in omega arith

  pub get-by-word : (v : ℕ) → v ≡ field s (8 * (pos / 8)) 64 → v * 2 ^ (pos % 8) % 2 ^ 64 / 2 ^ (64 - w) ≡ got s pos w
  get-by-word v e = let h = says in get-word s pos w v h.0 h.1 h.2 e

  pub put-by-word : (v code x : ℕ) (u : List ℕ) → v ≡ field s (8 * (pos / 8)) 64 → x ≡ placed v w (64 - pos % 8 - w) (code % 2 ^ w)
      → to_bits u ≡ put_to (to_bits s) (8 * (pos / 8)) 64 x
      → to_bits u ≡ leaves s pos w code
  put-by-word v code x u e = let h = says in put-in-word s pos w v h.0 h.1 h.2 e code x u

-- ---- whether the bits are there, test by test

module _ (s : List ℕ) (pos w : ℕ) where
  pub too_many : 64 < w → false ≡ there s pos w
  too_many h = sym (not_there s pos w (λ k. omega arith))

  pub starts-behind : length s < pos / 8 → false ≡ there s pos w
  starts-behind h = sym (not_there s pos w (λ k. omega arith))

  pub ends-behind : pos / 8 ≤ length s → length s - pos / 8 < (pos % 8 + w + 7) / 8 → false ≡ there s pos w
  ends-behind h k = sym (not_there s pos w (λ q. omega arith))

  pub ends-inside : w ≤ 64 → pos / 8 ≤ length s → (pos % 8 + w + 7) / 8 ≤ length s - pos / 8 → true ≡ there s pos w
  ends-inside h k q = sym (is-there s pos w h (omega arith))

-- ---- a byte at a time

-- where they are not there
module _ (s : List ℕ) (pos w : ℕ) (r : Bool) (e : r ≡ there s pos w) (no : not r ≡ true) where
  away : there s pos w ≡ false
  away = sym e ∙ not-true r no

  pub not-here : false ≡ there s pos w
  not-here = sym away

  pub nothing-got : 0 ≡ got s pos w
  nothing-got = sym (got-not s pos w away)

  pub nothing_put : (code : ℕ) → to_bits s ≡ leaves s pos w code
  nothing_put code = sym (leaves-not s pos w code away)

-- what is read so far is the field of the first k bits
pub record Reading (s : List ℕ) (pos w acc k : ℕ) : Type 0 where
  pub width : w ≤ 64
  pub ends : pos + w ≤ 8 * length s
  pub some : k ≤ w
  pub read : acc ≡ field s pos k

-- the first k bits of the code are put
pub record Writing (s₀ : List ℕ) (pos w code : ℕ) (s : List ℕ) (k : ℕ) : Type 0 where
  pub width : w ≤ 64
  pub ends : pos + w ≤ 8 * length s₀
  pub some : k ≤ w
  pub same : length s ≡ length s₀
  pub put : to_bits s ≡ put_to (to_bits s₀) pos k (code / 2 ^ (w - k))

module _ (s : List ℕ) (pos w : ℕ) (r : Bool) (e : r ≡ there s pos w) (yes : not r ≡ false) where
  here : there s pos w ≡ true
  here = sym e ∙ not-false r yes

  pub reading-first : Reading s pos w 0 0
  unfolding field number
  reading-first = record { width = there-width s pos w here; ends = there-end s pos w here; some = omega arith; read = refl }

  pub writing-first : (code : ℕ) → Writing s pos w code s 0
  unfolding bits_of
  writing-first code =
      record {
        width = there-width s pos w here;
        ends = there-end s pos w here;
        some = omega arith;
        same = refl;
        put = rw add-zero (sym (take-append-drop pos (to_bits s)));
      }

-- a step takes the next n bits, which lie in one byte
pub reading-on : (s : List ℕ) (pos w acc k n b mask : ℕ) → Reading s pos w acc k → ((i : ℕ) → Fits w8 (get_or s i 0)) → k < w
    → (0 < n) × ((pos % 8 + k) % 8 + n ≤ 8) × (n ≤ w - k) → b ≡ get_or s (pos / 8 + (pos % 8 + k) / 8) 0 → mask ≡ 2 ^ n - 1
    → Reading s pos w (bit_or (acc * 2 ^ n % 2 ^ 64) (bit_and (b / 2 ^ (8 - (pos % 8 + k) % 8 - n)) mask)) (k + n)
reading-on s pos w acc k n b mask h bytes less c eb em =
    let at : ℕ = pos % 8 + k in
    let q : ℕ = pos / 8 + at / 8 in
    let m : ℕ = 8 - at % 8 - n in
    let next : bit_and (b / 2 ^ m) mask ≡ field s (pos + k) n
    = ap (λ (z : ℕ). bit_and (b / 2 ^ m) z) em
    ∙ and_mask (b / 2 ^ m) n
    ∙ ap (λ (z : ℕ). z / 2 ^ m % 2 ^ n) eb
    ∙ sym (field-in-byte (record { byte = λ i. (bytes i).fits }) (pos + k) q (at % 8) n m (omega arith) (omega arith) (omega arith)) in
    record {
      width = h.width;
      ends = h.ends;
      some = omega arith;
      read = field-more s pos (pos + k) k n acc _ refl (omega arith) (omega arith) h.read next;
    }

pub reading-end : {s : List ℕ} {pos w acc k : ℕ} → Reading s pos w acc k → w ≤ k → acc ≡ got s pos w
reading-end {s} {pos} {w} {acc} {k} h e =
    let all : k ≡ w = omega arith in
    h.read ∙ ap (λ (x : ℕ). field s pos x) all ∙ sym (got-there s pos w h.width h.ends)

pub writing-on : (s₀ s : List ℕ) (pos w code k n b x v : ℕ) → Writing s₀ pos w code s k → ((i : ℕ) → Fits w8 (get_or s i 0)) → k < w
    → (0 < n) × ((pos % 8 + k) % 8 + n ≤ 8) × (n ≤ w - k) → b ≡ get_or s (pos / 8 + (pos % 8 + k) / 8) 0
    → x ≡ placed b n (8 - (pos % 8 + k) % 8 - n) (code / 2 ^ (w - k - n) % 2 ^ n) → v ≡ x % 256
    → Writing s₀ pos w code (set s (pos / 8 + (pos % 8 + k) / 8) v) (k + n)
writing-on s₀ s pos w code k n b x v h bytes less c eb ex ev =
    let at : ℕ = pos % 8 + k in
    let q : ℕ = pos / 8 + at / 8 in
    let m : ℕ = 8 - at % 8 - n in
    let r : ℕ = w - k - n in
    let l : List ℕ = to_bits s₀ in
    let y : ℕ = code / 2 ^ r in
    let left : w - k ≡ r + n = omega arith in
    let rest : r ≡ w - (k + n) = omega arith in
    let stored : v ≡ placed (get_or s q 0) n m (y % 2 ^ n) % 256
    = ev ∙ ap (λ (z : ℕ). z % 256) (ex ∙ ap (λ (z : ℕ). placed z n m (y % 2 ^ n)) eb) in
    let so_far : to_bits s ≡ put_to l pos k (y / 2 ^ n)
    = h.put ∙ ap (λ (z : ℕ). put_to l pos k z) (ap (λ (z : ℕ). code / 2 ^ z) left ∙ sym (shr-shr code r n)) in
    record {
      width = h.width;
      ends = h.ends;
      some = omega arith;
      same = length-set s q v ∙ h.same;
      put = store-in-byte (record { byte = λ i. (bytes i).fits }) (pos + k) q (at % 8) n m y v (omega arith) (omega arith) (omega arith) stored
          ∙ put-join l (to_bits s) pos k n y (omega (arith, length-to_bits s₀)) so_far
          ∙ ap (λ (z : ℕ). put_to l pos (k + n) (code / 2 ^ z)) rest;
    }

module _ (s₀ s : List ℕ) (pos w code k : ℕ) (h : Writing s₀ pos w code s k) where
  pub all_here : true ≡ there s₀ pos w
  all_here = sym (is-there s₀ pos w h.width h.ends)

  pub writing-end : w ≤ k → to_bits s ≡ leaves s₀ pos w code
  writing-end e =
      let all : k ≡ w = omega arith in
      let none : w - k ≡ 0 = omega arith in
      h.put
      ∙ ap₂ (λ (i z : ℕ). put_to (to_bits s₀) pos i z) all (ap (λ (z : ℕ). code / 2 ^ z) none ∙ div-one code)
      ∙ sym (leaves-there s₀ pos w code h.width h.ends)

-- ---- eight bytes as a word

-- `from_be_bytes` of the first of the words of `&s[at..]`
pub eight-read : (s : List ℕ) (words : List (List ℕ)) (at n r : ℕ) → ((i : ℕ) → Fits w8 (get_or s i 0)) → at + 8 ≤ length s → n ≡ length s - at
    → words ≡ first_chunks 8 (length (take n (drop at s)) / 8) (take n (drop at s)) → r ≡ from_be_bytes w64 (get_or words 0 [])
    → r ≡ field s (8 * at) 64
unfolding field
eight-read s words at n r bytes h en ew er =
    let rest : List ℕ = drop at s in
    let long : length rest ≡ length s - at = length-drop at s in
    let all : take n rest ≡ rest = take_all n rest (omega arith) in
    let some : length rest / 8 ≡ suc (length rest / 8 - 1) = omega arith in
    let first : get_or words 0 [] ≡ take 8 rest
    = ap (λ (l : List (List ℕ)). get_or l 0 []) (ew ∙ ap (λ (l : List ℕ). first_chunks 8 (length l / 8) l) all ∙ ap (λ (k : ℕ). first_chunks 8 k rest) some) in
    er
    ∙ ap (from_be_bytes w64) first
    ∙ bytes-number (bytes_take 8 (bytes_drop at (record { byte = λ i. (bytes i).fits }))) (length-take-le 8 rest (omega arith))
    ∙ ap number (to_bits-take 8 rest (omega arith) ∙ ap (take 64) (to_bits-drop at s (omega arith)))

-- `to_be_bytes` of a number is copied to `&mut s[at..at + 8]`
pub eight-put : (s b : List ℕ) (at n x : ℕ) → at + 8 ≤ length s → n ≡ 8 → b ≡ to_be_bytes w64 x
    → to_bits (put_mid at n s b) ≡ put_to (to_bits s) (8 * at) 64 x
eight-put s b at n x h en eb =
    let e : 8 * (at + 8) ≡ 8 * at + 64 = omega arith in
    to_bits-append (take at s) (b ++ drop n (drop at s))
    ∙ ap₂ (λ (y z : List ℕ). y ++ z) (to_bits-take at s (omega arith))
    (to_bits-append b (drop n (drop at s))
    ∙ ap₂ (λ (y z : List ℕ). y ++ z) (ap to_bits eb ∙ number-bytes x)
    (ap to_bits (ap (λ (k : ℕ). drop k (drop at s)) en ∙ drop-drop 8 at s)
    ∙ to_bits-drop (at + 8) s h ∙ ap (λ (k : ℕ). drop k (to_bits s)) e))
