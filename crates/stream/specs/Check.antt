-- Four more laws of the frame's check. Serves proofs; proved.
use Rattle.std.specs.Prelude.{◌≡◌, refl, List, [], ◌∷◌, ℕ, suc, ◌/◌, ◌%◌, ◌^◌, ◌≤◌, ◌<◌, length, get_or}
use Rattle.std.proofs.Common.{ap, ◌∙◌, arith, lt-ltb, le-ltb, eq-eqb, ne_eqb}
use Rattle.answer.specs.declared.Refusal.TheVariants.{Preamble, FrameCrc}
use Rattle.frame.specs.declared.Checked.TheVariants.{Short, Refused}
use Rattle.bits.specs.Bits.{Bytes}
use Rattle.bits.specs.Laws.{field-part, field-byte}
use Rattle.checks.specs.Crc.{frame_crc}
use Rattle.frame.specs.Fields.{preamble, tf006}
use Rattle.frame.specs.Check.{checked, bad_frame_crc}

-- of no byte nothing is known
pub none-short : checked [] ≡ Short 1
unfolding checked
none-short = refl

-- "First byte not 0x73": no frame, whatever follows
pub no-preamble : (x : ℕ) (s : List ℕ) → (x ≡ preamble → ⊥) → checked (x ∷ s) ≡ Refused Preamble
unfolding checked
no-preamble x s h = simp (le-ltb (suc (length s)) 1 (omega arith), ne_eqb x preamble h)

-- a preamble with fewer than four bytes: four are wanted
pub preamble-short : (x : ℕ) (s : List ℕ) → x ≡ preamble → length s < 3 → checked (x ∷ s) ≡ Short 4
unfolding checked
preamble-short x s e h = simp (le-ltb (suc (length s)) 1 (omega arith), eq-eqb x preamble e, lt-ltb (suc (length s)) 4 (omega arith))

-- a start whose TF006 is not that of its bits: no frame, whatever follows
pub bad-start : (s : List ℕ) → Bytes s → 4 ≤ length s → get_or s 0 0 ≡ preamble → (frame_crc (get_or s 1 0) (get_or s 2 0) (get_or s 3 0) ≡ get_or s 3 0 % 16 → ⊥)
    → checked s ≡ Refused FrameCrc
unfolding checked bad_frame_crc
bad-start s b h e w =
    let low : tf006 s ≡ get_or s 3 0 % 16 = field-part s 24 4 4 0 (omega arith) ∙ ap (λ (x : ℕ). x / 2 ^ 0 % 2 ^ 4) (field-byte b 3 (omega arith)) ∙ below (get_or s 3 0) in
    simp (
      le-ltb (length s) 1 (omega arith),
      eq-eqb (get_or s 0 0) preamble e,
      le-ltb (length s) 4 (omega arith),
      ne_eqb (frame_crc (get_or s 1 0) (get_or s 2 0) (get_or s 3 0)) (tf006 s) (λ z. w (z ∙ low)),
    )
  where
    below : (x : ℕ) → x / 2 ^ 0 % 2 ^ 4 ≡ x % 16
    below x = omega arith
