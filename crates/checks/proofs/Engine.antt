-- The bytes of a list as words: the first few, and then eight at a time.
use mathlib.Core.Path.{◌≡◌, sym, ap, ap₂, ◌∙◌}
use mathlib.Core.List.{List, [], ◌++◌}
use Prim.Native.Nat.{ℕ, zero, suc, ◌+◌, ◌*◌, ◌≤◌, ◌<◌}
use native.Mathlib.Omega.{arith}
use lib.ListN.{length, length-drop, get_or, take, drop, take-append-drop}
use lib.Seq.{drop-cons, length-take-le}
use mir.Syntax.{w64}
use Rattle.std.specs.Int.{from_be_bytes}
use Rattle.std.specs.Simd.{first_chunks}
use Rattle.std.proofs.lemmas.List.{nil_from_length}
use Rattle.bits.specs.Bits.{bits_of, to_bits, number, field, Bytes}
use Rattle.bits.specs.Laws.{to_bits-append, to_bits-drop, length-to_bits, bits-to_bits, bits-take, bits_of_number, bytes_take, bytes_drop, bytes-number}
use Rattle.checks.specs.Folds.{word_bits}

-- the next word
pub word-next : (words : List (List ℕ)) (i : ℕ) (word : List ℕ) → i < length words → word ≡ get_or words i []
    → word_bits (drop i words) ≡ bits_of 64 (from_be_bytes w64 word) ++ word_bits (drop (i + 1) words)
unfolding word_bits
word-next words i word h e =
    let next : suc i ≡ i + 1 = omega arith in
    ap word_bits (drop-cons words i [] h)
    ∙ ap₂ (λ (l : List ℕ) (k : ℕ). bits_of 64 (from_be_bytes w64 l) ++ word_bits (drop k words)) (sym e) next

-- all words
pub words-joined : (k : ℕ) (s : List ℕ) → Bytes s → length s ≡ k * 8 → word_bits (first_chunks 8 k s) ≡ to_bits s
unfolding word_bits to_bits
words-joined zero s bytes e = ap to_bits (sym (nil_from_length s e))
words-joined (suc k) s bytes e =
    let word : List ℕ = take 8 s in
    let eight : length word ≡ 8 = length-take-le 8 s (omega arith) in
    ap₂ (λ (l m : List ℕ). l ++ m)
    (ap₂ bits_of (sym (length-to_bits word ∙ ap (λ (n : ℕ). 8 * n) eight)) (bytes-number (bytes_take 8 bytes) eight)
    ∙ bits_of_number (bits-to_bits word))
    (words-joined k (drop 8 s) (bytes_drop 8 bytes) (omega (arith, length-drop 8 s)))
    ∙ sym (to_bits-append word (drop 8 s))
    ∙ ap to_bits (take-append-drop 8 s)

-- the first bytes
pub first-few : (s : List ℕ) (n : ℕ) → n ≤ length s → to_bits s ≡ bits_of (8 * n) (field s 0 (8 * n)) ++ to_bits (drop n s)
unfolding field
first-few s n h =
    let l : List ℕ = take (8 * n) (to_bits s) in
    let len : length l ≡ 8 * n = length-take-le (8 * n) (to_bits s) (omega (arith, length-to_bits s)) in
    sym (take-append-drop (8 * n) (to_bits s))
    ∙ ap₂ (λ (x y : List ℕ). x ++ y)
    (sym (bits_of_number (bits-take (8 * n) (bits-to_bits s))) ∙ ap (λ (k : ℕ). bits_of k (number l)) len)
    (sym (to_bits-drop n s h))
