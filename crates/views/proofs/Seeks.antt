-- The turns of the loops of places.rt, worded as the code makes its tests.
use Rattle.std.specs.Prelude.{Some, None}
use mathlib.Core.Path.{◌≡◌, refl, ap, sym, ◌∙◌}
use mathlib.Core.Bool.{Bool, true, false, ◌&&◌}
use mathlib.Core.List.{List}
use Prim.Native.Nat.{ℕ, suc, ◌+◌, ◌-◌, ◌≤◌, ◌<◌}
use native.Mathlib.Numerals.{add-one}
use borrow.Author.Tests.{eq-eqb, ne_eqb}
use lib.Dec.{eqb}
use lib.ListN.{length, drop, get_or, drop_of_length-le}
use lib.Seq.{drop-cons}
use Rattle.layout.specs.declared.Field.{Field}
use Rattle.layout.specs.Layout.{pick}
use Rattle.layout.specs.Tests.{one_less}
use Rattle.message.specs.declared.State.{State}
use Rattle.message.specs.Machine.{field_of, step_of}
use Rattle.views.specs.declared.places.Place.{Place}
use Rattle.views.specs.Results.{Found}
use Rattle.views.specs.Places.{here_or, sought_in, found_in}

-- ---- `seek`

-- what is found from here on is what is sought
pub record Seeking (sheet : List ℕ) (sf : ℕ) (goal : Place) (s : State) (at left : ℕ) : Type 0 where
  pub same : sought_in sf left s at (drop at sheet) ≡ goal

pub seek-first : (sheet : List ℕ) (sf : ℕ) (s : State) (at left : ℕ) → Seeking sheet sf (sought_in sf left s at (drop at sheet)) s at left
seek-first sheet sf s at left = record { same = refl }

module _ (sheet : List ℕ) (sf : ℕ) (goal : Place) (s : State) (at left : ℕ) (p : Seeking sheet sf goal s at left) where
  pub seek-end : length sheet ≤ at → record { state = s; at = at } ≡ goal
  unfolding sought_in
  seek-end h = ap (sought_in sf left s at) (sym (drop_of_length-le sheet h)) ∙ p.same

  module _ (h : at < length sheet) (f : Field) (e : f ≡ field_of s) where
    turned : (b : Bool) → eqb (field_of s).sf sf ≡ b
        → pick b (here_or left (record { state = s; at = at }) (λ n. sought_in sf n (step_of s (get_or sheet at 0)) (suc at) (drop (suc at) sheet)))
        (sought_in sf left (step_of s (get_or sheet at 0)) (suc at) (drop (suc at) sheet)) ≡ goal
    unfolding sought_in
    turned b t = (rw (sym t) (ap (sought_in sf left s at) (sym (drop-cons sheet at 0 h)))) ∙ p.same

    module _ (is : f.sf ≡ sf) where
      here : here_or left (record { state = s; at = at }) (λ n. sought_in sf n (step_of s (get_or sheet at 0)) (suc at) (drop (suc at) sheet)) ≡ goal
      here = turned true (eq-eqb (field_of s).sf sf (sym (ap (λ (x : Field). x.sf) e) ∙ is))

      pub seek-here : left ≡ 0 → record { state = s; at = at } ≡ goal
      seek-here z = ap (λ n. here_or n (record { state = s; at = at }) (λ n. sought_in sf n (step_of s (get_or sheet at 0)) (suc at) (drop (suc at) sheet))) (sym z) ∙ here

      pub seek-past : (left ≡ 0 → ⊥) → (t : State) → t ≡ step_of s (get_or sheet at 0) → Seeking sheet sf goal t (at + 1) (left - 1)
      seek-past z t q =
          rw (q, add-one at) (record { same = one_less (λ x. here_or x (record { state = s; at = at }) (λ n. sought_in sf n (step_of s (get_or sheet at 0)) (suc at) (drop (suc at) sheet))) left z ∙ here })

    pub seek-on : (f.sf ≡ sf → ⊥) → (t : State) → t ≡ step_of s (get_or sheet at 0) → Seeking sheet sf goal t (at + 1) left
    seek-on other t q =
        rw (q, add-one at) (record { same = turned false (ne_eqb (field_of s).sf sf (λ x. other (ap (λ (y : Field). y.sf) e ∙ x))) })

-- ---- `find`

module _ (s : State) (sf code wanted : ℕ) (f : Field) (e : f ≡ field_of s) where
  pub is-other : (f.sf ≡ sf → ⊥) → false ≡ (eqb (field_of s).sf sf && eqb code wanted)
  is-other h = rw (ne_eqb (field_of s).sf sf (λ x. h (ap (λ (y : Field). y.sf) e ∙ x)))

  pub is-both : f.sf ≡ sf → (b : Bool) → b ≡ eqb code wanted → b ≡ (eqb (field_of s).sf sf && eqb code wanted)
  is-both h b q = rw (eq-eqb (field_of s).sf sf (sym (ap (λ (y : Field). y.sf) e) ∙ h)) q

pub record Finding (sheet : List ℕ) (sf code : ℕ) (goal : Found) (s : State) (at : ℕ) : Type 0 where
  pub same : found_in sf code s at (drop at sheet) ≡ goal

pub find_first : (sheet : List ℕ) (sf code : ℕ) (s : State) (at : ℕ) → Finding sheet sf code (found_in sf code s at (drop at sheet)) s at
find_first sheet sf code s at = record { same = refl }

module _ (sheet : List ℕ) (sf code : ℕ) (goal : Found) (s : State) (at : ℕ) (p : Finding sheet sf code goal s at) where
  pub find-end : length sheet ≤ at → None ≡ goal
  unfolding found_in
  find-end h = ap (found_in sf code s at) (sym (drop_of_length-le sheet h)) ∙ p.same

  module _ (h : at < length sheet) (b : Bool) (e : b ≡ (eqb (field_of s).sf sf && eqb (get_or sheet at 0) code)) where
    tested : (x : Bool) → b ≡ x → pick x (Some (record { state = s; at = at })) (found_in sf code (step_of s (get_or sheet at 0)) (suc at) (drop (suc at) sheet)) ≡ goal
    unfolding found_in
    tested x q = (rw (sym q ∙ e) (ap (found_in sf code s at) (sym (drop-cons sheet at 0 h)))) ∙ p.same

    pub find-here : b ≡ true → Some (record { state = s; at = at }) ≡ goal
    find-here q = tested true q

    pub find-on : b ≡ false → (t : State) → t ≡ step_of s (get_or sheet at 0) → Finding sheet sf code goal t (at + 1)
    find-on q t z = rw (z, add-one at) (record { same = tested false q })
