-- Bytes that are all zero, in plain values.
use mathlib.Core.Path.{◌≡◌, refl, sym, ap, ap₂, ◌∙◌}
use mathlib.Core.List.{List, [], ◌∷◌, ◌++◌}
use mathlib.Core.Bool.{Bool, true, false, not, ◌&&◌, and_assoc, and-true}
use Prim.Native.Nat.{ℕ, zero, suc, ◌+◌, ◌-◌, ◌%◌, ◌≤◌}
use native.Mathlib.Omega.{arith}
use lib.ListN.{length, take, drop, length-drop, take-append-drop}
use lib.Seq.{take_all, drop-drop}
use lib.Bits.{bit_or, or_zero_l, or_add_and, and_le_r}
use lib.Dec.{eqb, eqb-suc-zero}
use borrow.Author.Tests.{ne_eqb, not-true, not-false}
use Rattle.std.specs.Prelude.{fold}
use Rattle.stream.specs.Tray.{zeros}
use Rattle.stream.proofs.Parts.{part-is}

-- ---- all zero

or-eqb : (a x : ℕ) → eqb (bit_or a x) 0 ≡ (eqb a 0 && eqb x 0)
or-eqb zero x = rw or_zero_l
or-eqb (suc a) x = rw (eqb-suc-zero a) (ne_eqb (bit_or (suc a) x) 0 (λ e. omega (arith, or_add_and (suc a) x, and_le_r (suc a) x)))

-- what is joined so far and the bytes left say what all the bytes say
pub joined-zeros : (joined : ℕ) (bytes : List ℕ) → eqb (fold bit_or joined bytes) 0 ≡ (eqb joined 0 && zeros bytes)
unfolding zeros
joined-zeros joined [] = sym (and-true (eqb joined 0))
joined-zeros joined (x ∷ bytes) =
    joined-zeros (bit_or joined x) bytes ∙ ap (λ b. b && zeros bytes) (or-eqb joined x) ∙ and_assoc (eqb joined 0) (eqb x 0) (zeros bytes)

zeros-append : (xs ys : List ℕ) → zeros (xs ++ ys) ≡ (zeros xs && zeros ys)
unfolding zeros
zeros-append [] ys = refl
zeros-append (x ∷ xs) ys = ap (λ b. eqb x 0 && b) (zeros-append xs ys) ∙ sym (and_assoc (eqb x 0) (zeros xs) (zeros ys))

zeros-parts : (n : ℕ) (bytes : List ℕ) → zeros bytes ≡ (zeros (take n bytes) && zeros (drop n bytes))
zeros-parts n bytes = ap zeros (sym (take-append-drop n bytes)) ∙ zeros-append (take n bytes) (drop n bytes)

zeros-last : (b c : Bool) → (b && c) ≡ true → c ≡ true
zeros-last true c e = e
zeros-last false c e = let z : ◌≡◌ {A = ℕ} 0 1 = cc in absurd (omega arith)

-- ---- whole blocks, and the last block's bytes

module _ (bytes : List ℕ) (b : Bool) (e : b ≡ zeros (take (length bytes - length bytes % 32) bytes)) where
  pub blocks-not : not b ≡ true → false ≡ zeros bytes
  blocks-not n = sym (zeros-parts (length bytes - length bytes % 32) bytes ∙ ap (λ x. x && zeros (drop (length bytes - length bytes % 32) bytes)) (sym e ∙ not-true b n))

  pub blocks_last : not b ≡ false → 32 ≤ length bytes → (r : Bool) → r ≡ zeros (take (length bytes - (length bytes - 32)) (drop (length bytes - 32) bytes)) → r ≡ zeros bytes
  blocks_last n h r q =
      let size : ℕ = length bytes in
      let whole : ℕ = size - size % 32 in
      let rest : ℕ = size - 32 in
      let near : rest + (whole - rest) ≡ whole = omega arith in
      let first : zeros (take whole bytes) ≡ true = sym e ∙ not-false b n in
      let inner : zeros (drop rest (take whole bytes)) ≡ true
      = zeros-last (zeros (take rest (take whole bytes))) (zeros (drop rest (take whole bytes))) (sym (zeros-parts rest (take whole bytes)) ∙ first) in
      let last : zeros (drop rest bytes) ≡ zeros (drop whole bytes)
      = zeros-parts (whole - rest) (drop rest bytes)
      ∙ ap₂ (λ x y. zeros x && zeros y) (part-is bytes rest whole) (drop-drop (whole - rest) rest bytes ∙ ap (λ (x : ℕ). drop x bytes) near)
      ∙ ap (λ x. x && zeros (drop whole bytes)) inner in
      let all : take (size - rest) (drop rest bytes) ≡ drop rest bytes = take_all (size - rest) (drop rest bytes) (omega (arith, length-drop rest bytes)) in
      q ∙ ap zeros all ∙ last ∙ sym (zeros-parts whole bytes ∙ ap (λ x. x && zeros (drop whole bytes)) first)
