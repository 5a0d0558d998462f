-- Mirror of `line_of`: a field's line as numbers, out of its packed line and by an arm for what its codes mean; and the law that every field whose codes mean
-- something has its arm.
use Rattle.std.specs.Prelude.{◌≡◌, refl, List, [], ◌∷◌, Bool, true, false, ◌&&◌, ◌||◌, ℕ, ◌/◌, ◌%◌, ◌≤◌, ◌<◌, T, eqb, Option, Some, None}
use Rattle.std.proofs.Common.{sym, ap, ◌∙◌, subst, inl, inr, arith, eqb→eq}
use Rattle.std.specs.Float.Ieee.Fits.{and_l, and_r}
use Rattle.std.proofs.Math.Facts.{or_yes}
use mir.Val.{has_key}
use types.Run.{OneOf, hit}
use Rattle.fields.specs.declared.Meaning.{Meaning}
use Rattle.fields.specs.declared.Steps.{Steps}
use Rattle.fields.specs.declared.Steps.TheVariants.{About}
use Rattle.fields.specs.declared.Numbers.{Numbers}
use Rattle.fields.specs.Fields.{Means, nothing, counts, Line, table, or_else, find, line_of, sf}
use Rattle.fields.specs.Columns.{numbers_by, numbers_of, width_small}
use Rattle.fields.specs.Packed.{packed, packed_line, most-small, invalid-small, packed-width}

-- a line as numbers out of its packed line, with what its codes mean
abbrev pub unpacked : (line : ℕ) → Steps → (middle per_unit : ℕ) → Option Meaning → Numbers
unpacked line steps middle per_unit meaning =
    record {
      width = line % 256;
      most = line / 256 % 65536;
      invalid = line / 4294967296 % 65536;
      steps = steps;
      middle = middle;
      per_unit = per_unit;
      meaning = meaning;
    }

abbrev pub unpacked_about : (line per_unit : ℕ) → Meaning → Numbers
unpacked_about line per_unit meaning = unpacked line About (line / 256 % 65536 / 2) per_unit (Some meaning)

-- ---- an arm, of some numbers

abbrev pub Each : (ℕ → Type 0) → List ℕ → Type 0
Each P [] = Unit
Each P (k ∷ ks) = P k × Each P ks

keys-at : (P : ℕ → Type 0) (ks : List ℕ) → Each P ks → (number : ℕ) → OneOf ks number → P number
keys-at P [] each number o = absurd o
keys-at P (k ∷ []) each number o = subst P (sym o) each.0
keys-at P (k ∷ k' ∷ ks) each number (inl e) = subst P (sym e) each.0
keys-at P (k ∷ k' ∷ ks) each number (inr o) = keys-at P (k' ∷ ks) each.1 number o

pub meant-at : (ks : List ℕ) (f : ℕ → Numbers) → Each (λ k. f (packed_line k) ≡ numbers_of (line_of k)) ks
    → (number line : ℕ) {r : Numbers} → OneOf ks number → line ≡ packed_line number → r ≡ f line → r ≡ numbers_of (line_of number)
meant-at ks f each number line o e q = q ∙ ap f e ∙ keys-at (λ k. f (packed_line k) ≡ numbers_of (line_of k)) ks each number o

-- ---- what is left over of `line_of`: every field whose codes mean something has its arm

unfoldable pub keyed : List (List ℕ) → ℕ → Bool
keyed [] number = false
keyed (ks ∷ arms) number = has_key ks number || keyed arms number

-- none of the arms, the last one first
abbrev pub Outside : List (List ℕ) → ℕ → Type 0
Outside [] number = Unit
Outside (ks ∷ arms) number = Outside arms number × (OneOf ks number → ⊥)

not-keyed : (arms : List (List ℕ)) (number : ℕ) → Outside arms number → T (keyed arms number) → ⊥
unfolding keyed
not-keyed [] number o t = t
not-keyed (ks ∷ arms) number o t =
    elim (or_yes (has_key ks number) (keyed arms number) t) [ inl a ↦ o.1 (hit ks number a) | inr b ↦ not-keyed arms number o.0 b ]

unfoldable pub meaningless : Means → Bool
meaningless nothing = true
meaningless (counts steps per_unit meaning) = false

unfoldable pub all_meant : List (List ℕ) → List Line → Bool
all_meant arms [] = true
all_meant arms (line ∷ lines) = (meaningless line.means || keyed arms line.number) && all_meant arms lines

found-meant : (arms : List (List ℕ)) (lines : List Line) → T (all_meant arms lines) → (number : ℕ) → (T (keyed arms number) → ⊥) → (find lines number).means ≡ nothing
unfolding find all_meant meaningless
found-meant arms [] t number out = refl
found-meant arms (line ∷ lines) t number out =
    go (eqb number line.number) refl line.means refl (and_l (meaningless line.means || keyed arms line.number) (all_meant arms lines) t)
    (found-meant arms lines (and_r (meaningless line.means || keyed arms line.number) (all_meant arms lines) t) number out)
  where
    go : (b : Bool) → eqb number line.number ≡ b → (m : Means) → line.means ≡ m → T (meaningless m || keyed arms line.number) → (find lines number).means ≡ nothing
        → (or_else b line (find lines number)).means ≡ nothing
    go false e m q t later = later
    go true e nothing q t later = q
    go true e (counts steps per_unit meaning) q t later = absurd (out (subst (λ n. T (keyed arms n)) (sym (eqb→eq number line.number (subst T (sym e) tt))) t))

unpacked-is : (width most invalid : ℕ) → width < 256 → most ≤ 0xFFFF → invalid ≤ 0xFFFF
    → unpacked (packed width most invalid) About 0 0 None ≡ numbers_by width most invalid nothing
unpacked-is width most invalid w m i = rw (packed-width width most invalid w, most-in, invalid-in) refl
  where
    most-in : packed width most invalid / 256 % 65536 ≡ most
    most-in = omega arith

    invalid-in : packed width most invalid / 4294967296 % 65536 ≡ invalid
    invalid-in = omega arith

pub meaning-none : (arms : List (List ℕ)) → T (all_meant arms table) → (number line : ℕ) {r : Numbers} → Outside arms number
    → line ≡ packed_line number → r ≡ unpacked line About 0 0 None → r ≡ numbers_of (line_of number)
unfolding packed_line sf line_of
meaning-none arms t number line o e q =
    let l : Line = find table number in
    let plain : l.means ≡ nothing = found-meant arms table t number (not-keyed arms number o) in
    q ∙ ap (λ x. unpacked x About 0 0 None) e
    ∙ unpacked-is l.width l.most l.invalid (omega (arith, width_small number)) (most-small number) (invalid-small number)
    ∙ ap (numbers_by l.width l.most l.invalid) (sym plain)
