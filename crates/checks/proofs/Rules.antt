-- The rules of TF006's table and of TF018's quotients, each from one test that antt computes.
use mathlib.Core.Path.{◌≡◌, refl, ap, ◌∙◌}
use mathlib.Core.List.{List, [], ◌∷◌}
use mathlib.Core.Bool.{Bool}
use Prim.Native.Nat.{ℕ, zero, suc, ◌*◌, ◌/◌, ◌%◌, ◌^◌, ◌≤◌, ◌<◌}
use native.Mathlib.Omega.{arith}
use lib.Bits.{bit_xor}
use lib.Dec.{T, eqb, eqb→eq}
use Rattle.bits.specs.Bits.{bits_of, number}
use Rattle.checks.specs.Crc.{shift, crc_bits, reversed4}
use Rattle.checks.specs.Steps.{half_first, frame_half}
use Rattle.checks.specs.Folds.{after, spread}
use Rattle.checks.proofs.Table.{below, at-below}
use Rattle.checks.proofs.Folding.{powers, product, circuit, circuit-is}

-- ---- TF006

-- the register after so many zeros
abbrev pub zeros : ℕ → ℕ → ℕ
zeros zero x = x
zeros (suc k) x = frame_half (zeros k x) 0

-- a rule of two numbers below 16
abbrev square : (ℕ → ℕ → Bool) → Bool
square f = below (λ x. below (f x) 16) 16

at-square : (f : ℕ → ℕ → Bool) → T (square f) → (x y : ℕ) → x < 16 → y < 16 → T (f x y)
at-square f t x y hx hy = at-below (f x) 16 (at-below (λ z. below (f z) 16) 16 t x hx) y hy

-- four bits enter: what the register leaves, and what they leave
pub half-enters : (reg n : ℕ) → reg < 16 → n < 16 → frame_half reg n ≡ bit_xor (frame_half reg 0) (frame_half n 0)
unfolding frame_half half_first reversed4 crc_bits shift bits_of number
half-enters reg n hr hn =
    eqb→eq (frame_half reg n) (bit_xor (frame_half reg 0) (frame_half n 0)) (at-square (λ x y. eqb (frame_half x y) (bit_xor (frame_half x 0) (frame_half y 0))) tt reg n hr hn)

pub half-xor : (x y : ℕ) → x < 16 → y < 16 → frame_half (bit_xor x y) 0 ≡ bit_xor (frame_half x 0) (frame_half y 0)
unfolding frame_half half_first reversed4 crc_bits shift bits_of number
half-xor x y hx hy =
    eqb→eq (frame_half (bit_xor x y) 0) (bit_xor (frame_half x 0) (frame_half y 0)) (at-square (λ a b. eqb (frame_half (bit_xor a b) 0) (bit_xor (frame_half a 0) (frame_half b 0))) tt x y hx hy)

pub half-none : frame_half 0 0 ≡ 0
unfolding frame_half half_first reversed4 crc_bits shift bits_of number
half-none = refl

-- a table's rule
abbrev pub IsTable : ℕ → ℕ → Type 0
IsTable t k = (n : ℕ) → n < 16 → t / 2 ^ (4 * n) % 16 ≡ zeros k n

abbrev table : ℕ → ℕ → ℕ → Bool
table t k n = eqb (t / 2 ^ (4 * n) % 16) (zeros k n)

is-table : (t k : ℕ) → T (below (table t k) 16) → IsTable t k
is-table t k e n h = eqb→eq (t / 2 ^ (4 * n) % 16) (zeros k n) (at-below (table t k) 16 e n h)

pub table-6 : IsTable 0x843FD16A2E957BC0 6
unfolding frame_half half_first reversed4 crc_bits shift bits_of number
table-6 = is-table 0x843FD16A2E957BC0 6 tt

pub table-5 : IsTable 0xBC5243AD618F9E70 5
unfolding frame_half half_first reversed4 crc_bits shift bits_of number
table-5 = is-table 0xBC5243AD618F9E70 5 tt

pub table-4 : IsTable 0xE7F6C5D4A3B28190 4
unfolding frame_half half_first reversed4 crc_bits shift bits_of number
table-4 = is-table 0xE7F6C5D4A3B28190 4 tt

pub table-3 : IsTable 0x192A7F4CD5E6B380 3
unfolding frame_half half_first reversed4 crc_bits shift bits_of number
table-3 = is-table 0x192A7F4CD5E6B380 3 tt

pub table-1 : IsTable 0x5BA48679C23D1FE0 1
unfolding frame_half half_first reversed4 crc_bits shift bits_of number
table-1 = is-table 0x5BA48679C23D1FE0 1 tt

-- ---- TF018: the register after 64 bits by moves

-- the steps of a quotient, as the code takes them, and the product
abbrev pub Four : ℕ → ℕ → List ℕ → List ℕ → Type 0
Four w p es fs = (v a b c d : ℕ) → v < 2 ^ 64 → a ≡ spread 1 es v → b ≡ spread 2 es a → c ≡ spread 4 es b → d ≡ spread 8 es c → product w fs d ≡ after w p 64 v

abbrev pub Six : ℕ → ℕ → List ℕ → List ℕ → Type 0
Six w p es fs = (v a b c d e f : ℕ) → v < 2 ^ 64 → a ≡ spread 1 es v → b ≡ spread 2 es a → c ≡ spread 4 es b → d ≡ spread 8 es c → e ≡ spread 16 es d
    → f ≡ spread 32 es e → product w fs f ≡ after w p 64 v

-- groups of the same counts, so many times each
abbrev pub repeated : List ℕ → List ℕ → List (ℕ × List ℕ)
repeated [] es = []
repeated (t ∷ ts) es = (t, es) ∷ repeated ts es

four : (w p : ℕ) (es fs : List ℕ) → 1 ≤ w → p < 2 ^ w → circuit w (repeated (1 ∷ 2 ∷ 4 ∷ 8 ∷ []) es) fs 0 ≡ 0
    → T (powers (circuit w (repeated (1 ∷ 2 ∷ 4 ∷ 8 ∷ []) es) fs) w p 64 0 (after w p 1 1)) → Four w p es fs
four w p es fs h1 hp z t v a b c d h ea eb ec ed =
    ap (product w fs) (ed ∙ ap (spread 8 es) (ec ∙ ap (spread 4 es) (eb ∙ ap (spread 2 es) ea)))
    ∙ circuit-is w p h1 hp (repeated (1 ∷ 2 ∷ 4 ∷ 8 ∷ []) es) fs z t v h

six : (w p : ℕ) (es fs : List ℕ) → 1 ≤ w → p < 2 ^ w → circuit w (repeated (1 ∷ 2 ∷ 4 ∷ 8 ∷ 16 ∷ 32 ∷ []) es) fs 0 ≡ 0
    → T (powers (circuit w (repeated (1 ∷ 2 ∷ 4 ∷ 8 ∷ 16 ∷ 32 ∷ []) es) fs) w p 64 0 (after w p 1 1)) → Six w p es fs
six w p es fs h1 hp z t v a b c d e f h ea eb ec ed ee ef =
    ap (product w fs) (ef ∙ ap (spread 32 es) (ee ∙ ap (spread 16 es) (ed ∙ ap (spread 8 es) (ec ∙ ap (spread 4 es) (eb ∙ ap (spread 2 es) ea)))))
    ∙ circuit-is w p h1 hp (repeated (1 ∷ 2 ∷ 4 ∷ 8 ∷ 16 ∷ 32 ∷ []) es) fs z t v h

pub circuit-8 : Four 8 0x07 (6 ∷ 7 ∷ 8 ∷ []) (1 ∷ 2 ∷ [])
unfolding after crc_bits bits_of shift
circuit-8 = four 8 0x07 (6 ∷ 7 ∷ 8 ∷ []) (1 ∷ 2 ∷ []) (omega arith) (omega arith) refl tt

pub circuit-16 : Four 16 0x1021 (4 ∷ 11 ∷ 16 ∷ []) (5 ∷ 12 ∷ [])
unfolding after crc_bits bits_of shift
circuit-16 = four 16 0x1021 (4 ∷ 11 ∷ 16 ∷ []) (5 ∷ 12 ∷ []) (omega arith) (omega arith) refl tt

pub circuit-24 : Six 24 0x864CFB (1 ∷ 6 ∷ 7 ∷ 10 ∷ 13 ∷ 14 ∷ 17 ∷ 18 ∷ 19 ∷ 20 ∷ 21 ∷ 23 ∷ 24 ∷ []) (1 ∷ 3 ∷ 4 ∷ 5 ∷ 6 ∷ 7 ∷ 10 ∷ 11 ∷ 14 ∷ 17 ∷ 18 ∷ 23 ∷ [])
unfolding after crc_bits bits_of shift
circuit-24 = six 24 0x864CFB (1 ∷ 6 ∷ 7 ∷ 10 ∷ 13 ∷ 14 ∷ 17 ∷ 18 ∷ 19 ∷ 20 ∷ 21 ∷ 23 ∷ 24 ∷ []) (1 ∷ 3 ∷ 4 ∷ 5 ∷ 6 ∷ 7 ∷ 10 ∷ 11 ∷ 14 ∷ 17 ∷ 18 ∷ 23 ∷ []) (omega arith) (omega arith) refl tt

pub circuit-32 : Four 32 0x04C11DB7 (6 ∷ 9 ∷ 10 ∷ 16 ∷ 20 ∷ 21 ∷ 22 ∷ 24 ∷ 25 ∷ 27 ∷ 28 ∷ 30 ∷ 31 ∷ 32 ∷ []) (1 ∷ 2 ∷ 4 ∷ 5 ∷ 7 ∷ 8 ∷ 10 ∷ 11 ∷ 12 ∷ 16 ∷ 22 ∷ 23 ∷ 26 ∷ [])
unfolding after crc_bits bits_of shift
circuit-32 = four 32 0x04C11DB7 (6 ∷ 9 ∷ 10 ∷ 16 ∷ 20 ∷ 21 ∷ 22 ∷ 24 ∷ 25 ∷ 27 ∷ 28 ∷ 30 ∷ 31 ∷ 32 ∷ []) (1 ∷ 2 ∷ 4 ∷ 5 ∷ 7 ∷ 8 ∷ 10 ∷ 11 ∷ 12 ∷ 16 ∷ 22 ∷ 23 ∷ 26 ∷ []) (omega arith) (omega arith) refl tt
