-- The steps as the code has them: TF006 by halves of bytes and a table, TF018's words of eight bytes, and its four cases.
use mathlib.Core.Path.{◌≡◌, refl, sym, ap, ap₂, ◌∙◌, subst}
use mathlib.Core.List.{List, [], ◌++◌, reverse, reverse-append}
use Prim.Native.Nat.{ℕ, zero, suc, ◌+◌, ◌-◌, ◌*◌, ◌/◌, ◌%◌, ◌^◌, ◌≤◌, ◌<◌}
use native.Mathlib.Nat.{add_comm, mod-lt, lt_of_lt_of_le, div-eq_of_lt}
use native.Mathlib.Omega.{arith}
use lib.Bits.{bit_xor, xor_lt, xor_zero_l, xor_shifted}
use lib.Dec.{eqb, eqb→eq}
use lib.ListN.{length, length-drop, get_or, drop, drop_of_length-le}
use lib.Pow.{pow_pos, pow_mono, shl_exact, split}
use mir.Syntax.{w8, w64}
use mir.Val.{Fits}
use Rattle.std.specs.Option.{SomeIff, unwrap_or}
use Rattle.std.proofs.Common.{Option, Some, None}
use Rattle.std.specs.Int.{from_be_bytes}
use Rattle.std.specs.Simd.{first_chunks}
use Rattle.bits.specs.Bits.{bits_of, to_bits, number, field, got}
use Rattle.bits.specs.Laws.{bits_of-add, bits_of-mod, field_lt, got-there, bytes_drop}
use Rattle.checks.specs.Crc.{crc_bits, crc, low_first, reversed4, frame_crc, message_crc}
use Rattle.checks.specs.Steps.{half_first, frame_half, frame_byte}
use Rattle.checks.specs.Folds.{after, ups, xors, word_bits, folded, Rule}
use Rattle.checks.specs.Register.{bits-append, bits-lt}
use Rattle.checks.specs.Laws.{reversed4-lt}
use Rattle.checks.proofs.Engine.{word-next, words-joined, first-few}
use Rattle.checks.proofs.Folding.{after-lt, after_two, after_more, after-wide, fold_is, moved}
use Rattle.checks.proofs.Table.{at-below}
use Rattle.checks.proofs.Rules.{zeros, half-enters, half-xor, half-none, table-6, table-5, table-4, table-3, table-1}

-- ---- TF006

reversed4-twice : (n : ℕ) → n < 16 → reversed4 (reversed4 n) ≡ n
unfolding reversed4 bits_of number
reversed4-twice n h = eqb→eq (reversed4 (reversed4 n)) n (at-below (λ (k : ℕ). eqb (reversed4 (reversed4 k)) k) 16 tt n h)

half-bits : (n i : ℕ) → get_or (half_first n) i 0 < 2
unfolding half_first bits_of
half-bits n zero = mod-lt _ (omega arith)
half-bits n (suc zero) = mod-lt _ (omega arith)
half-bits n (suc (suc zero)) = mod-lt _ (omega arith)
half-bits n (suc (suc (suc zero))) = mod-lt _ (omega arith)
half-bits n (suc (suc (suc (suc i)))) = omega arith

half_lt : (r n : ℕ) → r < 16 → crc_bits 4 9 r (half_first n) < 16
half_lt r n h = bits-lt 4 9 (omega arith) (omega arith) (half_first n) (half-bits n) r h

-- a byte is its low half and then its high half
two-halves : (r b : ℕ) → crc_bits 4 9 r (low_first b) ≡ crc_bits 4 9 (crc_bits 4 9 r (half_first (b % 16))) (half_first (b / 16))
unfolding low_first half_first
two-halves r b =
    ap (crc_bits 4 9 r)
    (ap reverse (bits_of-add 4 4 b) ∙ reverse-append (bits_of 4 (b / 16)) (bits_of 4 b) ∙ ap (λ (l : List ℕ). reverse l ++ half_first (b / 16)) (bits_of-mod 4 b))
    ∙ bits-append 4 9 r (half_first (b % 16)) (half_first (b / 16))

byte_low : (r b : ℕ) → r < 16 → crc_bits 4 9 r (low_first b) < 16
byte_low r b h = rw (two-halves r b) (half_lt (crc_bits 4 9 r (half_first (b % 16))) (b / 16) (half_lt r (b % 16) h))

pub frame-halves : (reg b : ℕ) → frame_half (frame_half reg (b % 16)) (b / 16) ≡ frame_byte reg b
unfolding frame_half frame_byte
frame-halves reg b =
    let low : ℕ = crc_bits 4 9 (reversed4 reg) (half_first (b % 16)) in
    ap (λ (x : ℕ). reversed4 (crc_bits 4 9 x (half_first (b / 16)))) (reversed4-twice low (half_lt (reversed4 reg) (b % 16) (reversed4-lt reg)))
    ∙ ap reversed4 (sym (two-halves (reversed4 reg) b))

-- a byte more: the register as the definition has it
frame-more : (r b : ℕ) → r < 16 → frame_byte (reversed4 r) b ≡ reversed4 (crc_bits 4 9 r (low_first b))
unfolding frame_byte
frame-more r b h = ap (λ (x : ℕ). reversed4 (crc_bits 4 9 x (low_first b))) (reversed4-twice r h)

frame-first : (b : ℕ) → frame_byte 0 b ≡ reversed4 (crc_bits 4 9 0 (low_first b))
unfolding frame_byte reversed4 bits_of number
frame-first b = refl

frame-bytes : (a b c : ℕ) → frame_byte (frame_byte (frame_byte 0 a) b) (c / 16 * 16) ≡ frame_crc a b c
unfolding frame_crc
frame-bytes a b c =
    let d : ℕ = c / 16 * 16 in
    let x : ℕ = crc_bits 4 9 0 (low_first a) in
    let y : ℕ = crc_bits 4 9 x (low_first b) in
    let x_lt : x < 16 = byte_low 0 a (omega arith) in
    let y-lt : y < 16 = byte_low x b x_lt in
    ap (λ (z : ℕ). frame_byte (frame_byte z b) d) (frame-first a)
    ∙ ap (λ (z : ℕ). frame_byte z d) (frame-more x b x_lt)
    ∙ frame-more y d y-lt
    ∙ ap reversed4 (sym (bits-append 4 9 0 (low_first a) (low_first b ++ low_first d) ∙ bits-append 4 9 x (low_first b) (low_first d)))

-- the halves of the three bytes one after the other, the last after four zeros
frame-six : (a b c : ℕ) → frame_half (frame_half (frame_half (frame_half (frame_half (frame_half 0 (a % 16)) (a / 16)) (b % 16)) (b / 16)) 0) (c / 16) ≡ frame_crc a b c
frame-six a b c =
    let low : c / 16 * 16 % 16 ≡ 0 = omega arith in
    let top : c / 16 * 16 / 16 ≡ c / 16 = omega arith in
    ap (λ (x : ℕ). frame_half (frame_half (frame_half (frame_half x (b % 16)) (b / 16)) 0) (c / 16)) (frame-halves 0 a)
    ∙ ap (λ (x : ℕ). frame_half (frame_half x 0) (c / 16)) (frame-halves (frame_byte 0 a) b)
    ∙ ap₂ (λ (x y : ℕ). frame_half (frame_half (frame_byte (frame_byte 0 a) b) x) y) (sym low) (sym top)
    ∙ frame-halves (frame_byte (frame_byte 0 a) b) (c / 16 * 16)
    ∙ frame-bytes a b c

half-fits : (r n : ℕ) → frame_half r n < 16
unfolding frame_half
half-fits r n = reversed4-lt _

xor-fits : (x y : ℕ) → x < 16 → y < 16 → bit_xor x y < 16
xor-fits x y hx hy = xor_lt 4 x y hx hy

zeros-fits : (k x : ℕ) → x < 16 → zeros k x < 16
zeros-fits zero x h = h
zeros-fits (suc k) x h = half-fits (zeros k x) 0

-- the register is what all the halves leave, each with the zeros that come behind it
module _ (a b c d e : ℕ) (ha : a < 16) (hb : b < 16) (hc : c < 16) (hd : d < 16) (he : e < 16) where
  two : frame_half (frame_half 0 a) b ≡ bit_xor (zeros 2 a) (zeros 1 b)
  two =
      ap (λ (x : ℕ). frame_half x b) (half-enters 0 a (omega arith) ha ∙ ap (λ (x : ℕ). bit_xor x (zeros 1 a)) half-none ∙ xor_zero_l (zeros 1 a))
      ∙ half-enters (zeros 1 a) b (zeros-fits 1 a ha) hb

  three : frame_half (frame_half (frame_half 0 a) b) c ≡ bit_xor (bit_xor (zeros 3 a) (zeros 2 b)) (zeros 1 c)
  three =
      ap (λ (x : ℕ). frame_half x c) two
      ∙ half-enters (bit_xor (zeros 2 a) (zeros 1 b)) c (xor-fits _ _ (zeros-fits 2 a ha) (zeros-fits 1 b hb)) hc
      ∙ ap (λ (x : ℕ). bit_xor x (zeros 1 c)) (half-xor (zeros 2 a) (zeros 1 b) (zeros-fits 2 a ha) (zeros-fits 1 b hb))

  more : (j k l : ℕ) → frame_half (bit_xor (bit_xor (zeros j a) (zeros k b)) (zeros l c)) 0 ≡ bit_xor (bit_xor (zeros (suc j) a) (zeros (suc k) b)) (zeros (suc l) c)
  more j k l =
      half-xor (bit_xor (zeros j a) (zeros k b)) (zeros l c) (xor-fits _ _ (zeros-fits j a ha) (zeros-fits k b hb)) (zeros-fits l c hc)
      ∙ ap (λ (x : ℕ). bit_xor x (zeros (suc l) c)) (half-xor (zeros j a) (zeros k b) (zeros-fits j a ha) (zeros-fits k b hb))

  three-fit : (j k l : ℕ) → bit_xor (bit_xor (zeros j a) (zeros k b)) (zeros l c) < 16
  three-fit j k l = xor-fits _ _ (xor-fits _ _ (zeros-fits j a ha) (zeros-fits k b hb)) (zeros-fits l c hc)

  four : frame_half (frame_half (frame_half (frame_half 0 a) b) c) d ≡ bit_xor (bit_xor (bit_xor (zeros 4 a) (zeros 3 b)) (zeros 2 c)) (zeros 1 d)
  four =
      ap (λ (x : ℕ). frame_half x d) three
      ∙ half-enters (bit_xor (bit_xor (zeros 3 a) (zeros 2 b)) (zeros 1 c)) d (three-fit 3 2 1) hd
      ∙ ap (λ (x : ℕ). bit_xor x (zeros 1 d)) (more 3 2 1)

  more-four : (j k l m : ℕ) → frame_half (bit_xor (bit_xor (bit_xor (zeros j a) (zeros k b)) (zeros l c)) (zeros m d)) 0
      ≡ bit_xor (bit_xor (bit_xor (zeros (suc j) a) (zeros (suc k) b)) (zeros (suc l) c)) (zeros (suc m) d)
  more-four j k l m =
      half-xor (bit_xor (bit_xor (zeros j a) (zeros k b)) (zeros l c)) (zeros m d) (three-fit j k l) (zeros-fits m d hd)
      ∙ ap (λ (x : ℕ). bit_xor x (zeros (suc m) d)) (more j k l)

  all-halves : frame_half (frame_half (frame_half (frame_half (frame_half (frame_half 0 a) b) c) d) 0) e
      ≡ bit_xor (bit_xor (bit_xor (bit_xor (zeros 6 a) (zeros 5 b)) (zeros 4 c)) (zeros 3 d)) (zeros 1 e)
  all-halves =
      ap (λ (x : ℕ). frame_half (frame_half x 0) e) four
      ∙ ap (λ (x : ℕ). frame_half x e) (more-four 4 3 2 1)
      ∙ half-enters (bit_xor (bit_xor (bit_xor (zeros 5 a) (zeros 4 b)) (zeros 3 c)) (zeros 2 d)) e (xor-fits _ _ (three-fit 5 4 3) (zeros-fits 2 d hd)) he
      ∙ ap (λ (x : ℕ). bit_xor x (zeros 1 e)) (more-four 5 4 3 2)

-- v to z are the entries of the five tables
pub frame_is : (a b c v w x y z : ℕ) → a < 256 → b < 256 → c < 256
    → v ≡ 0x843FD16A2E957BC0 / 2 ^ (4 * (a % 16)) % 16
    → w ≡ 0xBC5243AD618F9E70 / 2 ^ (4 * (a / 16)) % 16
    → x ≡ 0xE7F6C5D4A3B28190 / 2 ^ (4 * (b % 16)) % 16
    → y ≡ 0x192A7F4CD5E6B380 / 2 ^ (4 * (b / 16)) % 16
    → z ≡ 0x5BA48679C23D1FE0 / 2 ^ (4 * (c / 16)) % 16
    → bit_xor (bit_xor (bit_xor (bit_xor v w) x) y) z ≡ frame_crc a b c
frame_is a b c v w x y z ha hb hc ev ew ex ey ez =
    let a0 : a % 16 < 16 = omega arith in
    let a1 : a / 16 < 16 = omega arith in
    let b0 : b % 16 < 16 = omega arith in
    let b1 : b / 16 < 16 = omega arith in
    let c1 : c / 16 < 16 = omega arith in
    rw (ev ∙ table-6 (a % 16) a0, ew ∙ table-5 (a / 16) a1, ex ∙ table-4 (b % 16) b0, ey ∙ table-3 (b / 16) b1, ez ∙ table-1 (c / 16) c1)
    (sym (all-halves (a % 16) (a / 16) (b % 16) (b / 16) (c / 16) a0 a1 b0 b1 c1) ∙ frame-six a b c)

-- ---- TF018

-- no bytes before the words
pub head-none : (start k : ℕ) (s : List ℕ) → k ≡ 0 → start ≡ start * 2 ^ (8 * k) + field s 0 (8 * k)
unfolding field number
head-none start k s e = rw e (omega arith)

-- a start, and the first bytes behind it
pub head-is : (start k f : ℕ) (s : List ℕ) → start < 2 ^ 64 → k < 8 → k ≤ length s → f ≡ got s 0 (8 * k)
    → bit_xor (start * 2 ^ (8 * k) % 2 ^ 128) f ≡ start * 2 ^ (8 * k) + field s 0 (8 * k)
head-is start k f s hs h l e =
    let m : ℕ = 8 * k in
    let f-is : f ≡ field s 0 m = e ∙ got-there s 0 m (omega arith) (omega arith) in
    let f_lt : f < 2 ^ m = subst (λ (x : ℕ). x < 2 ^ m) (sym f-is) (field_lt s 0 m) in
    ap (λ (x : ℕ). bit_xor x f) (shl_exact 64 m 128 hs (omega arith)) ∙ xor_shifted start m f f_lt ∙ ap (λ (x : ℕ). start * 2 ^ m + x) f-is

-- the loop's invariant: the bits of the words from i on, from what the number leaves, leave what they all do from what the start leaves
pub record Going (w p start : ℕ) (words : List (List ℕ)) (n i : ℕ) : Type 0 where
  pub fits : n < 2 ^ 128
  pub same : crc_bits w p (after w p 128 n) (word_bits (drop i words)) ≡ crc_bits w p (after w p 128 start) (word_bits words)

module _ {w p : ℕ} {es : List ℕ} (rule : Rule w p es) where
  pub fold-code : (n h l c r : ℕ) → h ≡ n / 2 ^ 64 → l ≡ n % 2 ^ 64 → c < 2 ^ 64
      → r ≡ xors (λ e. h / 2 ^ (64 - e)) es l * 2 ^ 64 + xors (λ e. h * 2 ^ e % 2 ^ 64) es c → r ≡ folded es n c
  fold-code n h l c r eh el hc er =
      er ∙ moved es rule.near h l c hc ∙ ap₂ (λ (x y : ℕ). bit_xor (ups es x) (y * 2 ^ 64 + c)) eh el

  -- a word goes in
  pub words-on : (words : List (List ℕ)) (start n next i word : ℕ) → next < 2 ^ 128 → Going w p start words n i → i < length words
      → word < 2 ^ 64 → word ≡ from_be_bytes w64 (get_or words i []) → next ≡ folded es n word → Going w p start words next (i + 1)
  words-on words start n next i word fits g h hw ew en =
      let before : ℕ = after w p 128 n in
      let rest : List ℕ = word_bits (drop (i + 1) words) in
      record {
        fits = fits;
        same =
            ap (λ (z : ℕ). crc_bits w p (after w p 128 z) rest) en
            ∙ ap (λ (z : ℕ). crc_bits w p z rest) (sym (fold_is rule n word g.fits hw))
            ∙ sym (bits-append w p before (bits_of 64 word) rest)
            ∙ ap (λ (z : ℕ). crc_bits w p before (bits_of 64 z ++ rest)) ew
            ∙ ap (crc_bits w p before) (sym (word-next words i (get_or words i []) h refl))
            ∙ g.same;
      }

  -- the register that a number leaves, by its two halves
  pub ends : w ≤ 64 → (n h l x r : ℕ) → h ≡ n / 2 ^ 64 → l ≡ n % 2 ^ 64 → x ≡ after w p 64 h
      → r ≡ after w p 64 (bit_xor l (x * 2 ^ (64 - w) % 2 ^ 64)) → r ≡ after w p 128 n
  ends wide n h l x r eh el ex er =
      let l_lt : l < 2 ^ 64 = subst (λ (y : ℕ). y < 2 ^ 64) (sym el) (mod-lt n (pow_pos 64)) in
      let x_lt : x < 2 ^ w = subst (λ (y : ℕ). y < 2 ^ w) (sym ex) (after-lt w p rule.some rule.fits 64 h) in
      er
      ∙ ap (λ (y : ℕ). after w p 64 (bit_xor l y)) (shl_exact w (64 - w) 64 x_lt (omega arith))
      ∙ sym (after_two w p rule.some rule.fits x l wide x_lt l_lt)
      ∙ ap (λ (y : ℕ). crc_bits w p y (bits_of 64 l)) ex
      ∙ after_more w p rule.some rule.fits 64 64 h l l_lt
      ∙ ap (after w p 128) (ap₂ (λ (y z : ℕ). y * 2 ^ 64 + z) eh el ∙ split n 64)

  -- a start and the first bytes behind it
  begins : (start a k : ℕ) (s : List ℕ) → a < 2 ^ 128 → k ≤ length s → a ≡ start * 2 ^ (8 * k) + field s 0 (8 * k)
      → crc_bits w p (after w p 128 a) (to_bits (drop k s)) ≡ crc w p (after w p 128 start) s
  unfolding crc
  begins start a k s a_lt h ea =
      let f : ℕ = field s 0 (8 * k) in
      ap (λ (y : ℕ). crc_bits w p y (to_bits (drop k s)))
      (sym (after-wide w p rule.some rule.fits (8 * k) 128 a a_lt)
      ∙ ap₂ (λ (m n : ℕ). after w p m n) (add_comm (8 * k) 128) ea
      ∙ sym (after_more w p rule.some rule.fits 128 (8 * k) start f (field_lt s 0 (8 * k))))
      ∙ sym (bits-append w p (after w p 128 start) (bits_of (8 * k) f) (to_bits (drop k s)))
      ∙ ap (crc_bits w p (after w p 128 start)) (sym (first-few s k h))

  -- the start and the first bytes, the words, and the register that they leave
  pub crc-all : (start reg : ℕ) → after w p 128 start ≡ reg
      → (begin k r : ℕ) (s : List ℕ) (a b : ℕ) (words : List (List ℕ)) → ((i : ℕ) → Fits w8 (get_or s i 0))
      → begin ≡ start → k ≡ length s % 8 → r ≡ after w p 128 b
      → after w p 128 b ≡ crc_bits w p (after w p 128 a) (word_bits words)
      → words ≡ first_chunks 8 (length s / 8) (drop (length s % 8) s)
      → a < 2 ^ 128 → a ≡ begin * 2 ^ (8 * k) + field s 0 (8 * k) → r ≡ crc w p reg s
  crc-all start reg es begin k r s a b words bytes e ek er eb ew fa ea =
      let m : ℕ = length s % 8 in
      let joined : word_bits words ≡ to_bits (drop k s)
      = ap word_bits ew
      ∙ words-joined (length s / 8) (drop m s) (bytes_drop m (record { byte = λ i. (bytes i).fits })) (omega (arith, length-drop m s))
      ∙ ap (λ (n : ℕ). to_bits (drop n s)) (sym ek) in
      er
      ∙ eb
      ∙ ap (crc_bits w p (after w p 128 a)) joined
      ∙ begins begin a k s fa (omega arith) ea
      ∙ ap (λ (y : ℕ). crc w p y s) (ap (after w p 128) e ∙ es)

-- no word is left
pub going_end : {w p start : ℕ} {words : List (List ℕ)} {n i : ℕ} → Going w p start words n i → length words ≤ i
    → after w p 128 n ≡ crc_bits w p (after w p 128 start) (word_bits words)
unfolding crc_bits word_bits
going_end {w} {p} {start} {words} {n} {i} g h =
    sym (ap (λ (l : List (List ℕ)). crc_bits w p (after w p 128 n) (word_bits l)) (drop_of_length-le words h)) ∙ g.same

-- a number moved down: 0 by 64 places or more
pub down_is : (q places : ℕ) (o : Option ℕ) → q < 2 ^ 64 → SomeIff o (places < 64) (q / 2 ^ places) → unwrap_or o 0 ≡ q / 2 ^ places
down_is q places None h o = let far : 64 ≤ places = omega (arith, o) in sym (div-eq_of_lt (lt_of_lt_of_le h (pow_mono far)))
down_is q places (Some x) h o = o.1

-- a number over 3 is taken as 3
pub other-type : (k y : ℕ) (s : List ℕ) → (k ≡ 0 → ⊥) → (k ≡ 1 → ⊥) → (k ≡ 2 → ⊥) → y ≡ message_crc 3 s → y ≡ message_crc k s
unfolding message_crc
other-type zero y s a b c e = absurd (a refl)
other-type (suc zero) y s a b c e = absurd (b refl)
other-type (suc (suc zero)) y s a b c e = absurd (c refl)
other-type (suc (suc (suc k))) y s a b c e = e
