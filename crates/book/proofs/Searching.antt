-- One lemma for each turn and each answer of the functions that search a book by ID, in plain variables, premises worded as the code makes them. Assumes nothing.
use Rattle.std.specs.Prelude.{Some, None}
use mathlib.Core.Path.{◌≡◌, refl, ap, sym, ◌∙◌, subst}
use mathlib.Core.Bool.{Bool, true, false, cond}
use mathlib.Core.List.{List, ◌∷◌}
use Prim.Native.Nat.{ℕ, zero, suc, ◌+◌, ◌*◌, ◌/◌, ◌≤◌, ◌<◌}
use native.Mathlib.Omega.{arith}
use native.Mathlib.Numerals.{add-one}
use lib.Dec.{ltb, eqb}
use lib.ListN.{length, get_or, take, drop}
use lib.Seq.{get_or-drop}
use mir.Syntax.{w8}
use mir.Val.{Fits}
use borrow.Author.Tests.{lt-ltb, le-ltb, ltb-true, ltb-false}
use Rattle.bits.specs.Bits.{Bytes}
use Rattle.bits.specs.Laws.{bytes_drop}
use Rattle.area.specs.Area.{sf031, number_at}
use Rattle.book.specs.Book.{area_in, areas_in, place_of}
use Rattle.book.specs.Laws.{Ascending, length-areas, areas-at}
use Rattle.book.specs.Take.{lookup}
use Rattle.book.specs.Search.{Below, below_up, below_next, Passed, Reached, reached-end, reached-other, reached-found}
use Rattle.book.proofs.Reading.{number-there, first_byte}

-- an area's ID is its first byte
id-byte : (s : List ℕ) (n i : ℕ) → Bytes s → i < n → sf031 (get_or (areas_in n s) i 0) ≡ get_or s (6 * i) 0
id-byte s n i b h =
    ap sf031 (areas-at n i s h) ∙ first_byte (drop (6 * i) s) (bytes_drop (6 * i) b) ∙ get_or-drop (6 * i) s 0 0
    ∙ ap (λ k. get_or s k 0) {x = 6 * i + 0} {y = 6 * i} (omega arith)

-- the first area whose first byte is the ID is the first with that ID
place-lookup : (id n : ℕ) (s : List ℕ) → Bytes s → lookup id (areas_in n s) ≡ cond (ltb (place_of id n s) n) (Some (get_or (areas_in n s) (place_of id n s) 0)) None
unfolding lookup areas_in place_of
place-lookup id zero s b = refl
place-lookup id (suc n) s b =
    ap (λ d. cond (eqb d id) (Some (area_in s)) (lookup id (areas_in n (drop 6 s)))) (first_byte s b) ∙ go (eqb (get_or s 0 0) id) (place-lookup id n (drop 6 s) (bytes_drop 6 b))
  where
    x : ℕ
    x = place_of id n (drop 6 s)

    l : List ℕ
    l = areas_in n (drop 6 s)

    suc-less : ltb (suc x) (suc n) ≡ ltb x n
    suc-less = by (ltb x n) refl
      where
        by : (b : Bool) → ltb x n ≡ b → ltb (suc x) (suc n) ≡ b
        by true q = lt-ltb (suc x) (suc n) (omega (arith, ltb-true x n q))
        by false q = le-ltb (suc x) (suc n) (omega (arith, ltb-false x n q))

    go : (b : Bool) → lookup id l ≡ cond (ltb x n) (Some (get_or l x 0)) None
        → cond b (Some (area_in s)) (lookup id l) ≡ cond (ltb (cond b zero (suc x)) (suc n)) (Some (get_or (area_in s ∷ l) (cond b zero (suc x)) 0)) None
    go true ih = sym (ap (λ b. cond b (Some (area_in s)) None) (lt-ltb 0 (suc n) (omega arith)))
    go false ih = ih ∙ ap (λ b. cond b (Some (get_or l x 0)) None) (sym suc-less)

-- all areas have a smaller ID
pub reach-end : (s : List ℕ) (id n i : ℕ) → Passed id n s i → n ≤ i → Reached id n s n
reach-end s id n i p h =
    let e : i ≡ n = omega (arith, p.inside) in
    record { inside = omega arith; below = subst (λ j. Below id (take j (areas_in n s))) e p.below; above = λ l. absurd (omega arith) }

module _ (s : List ℕ) (known : (i : ℕ) → Fits w8 (get_or s i 0)) where
  octets : Bytes s
  octets = record { byte = λ i. (known i).fits }

  module _ (id n : ℕ) where
    -- ---- the areas passed have smaller IDs

    module _ (i : ℕ) (p : Passed id n s i) where
      pub reach-found : i < n → id ≤ get_or s (6 * i) 0 → Reached id n s i
      reach-found h k = record { inside = p.inside; below = p.below; above = λ l. subst (λ x. id ≤ x) (sym (id-byte s n i octets h)) k }

      pub reach-turn : i < n → get_or s (6 * i) 0 < id → Passed id n s (i + 1)
      reach-turn h k =
          record {
            inside = omega arith;
            below = subst (λ j. Below id (take j (areas_in n s))) (sym (add-one i))
                (below_next id i (areas_in n s) p.below (omega (arith, length-areas n s)) (subst (λ x. x < id) (sym (id-byte s n i octets h)) k));
          }

    -- ---- the area at the place that was reached

    module _ (at : ℕ) (up : Ascending 0 (areas_in n s)) (q : Reached id n s at) where
      pub at-end : n ≤ at → None ≡ lookup id (areas_in n s)
      at-end h = sym (reached-end id n at s up q h)

      module _ (h : at < n) where
        pub at_other : (get_or s (6 * at) 0 ≡ id → ⊥) → None ≡ lookup id (areas_in n s)
        at_other k = sym (reached-other id n at s up q h (λ e. k (sym (id-byte s n at octets h) ∙ e)))

        pub at-found : get_or s (6 * at) 0 ≡ id → 6 * n ≤ length s → (x : ℕ) → x ≡ number_at s (6 * at) → Some (x / 2) ≡ lookup id (areas_in n s)
        at-found e fits x ex =
            ap (λ x. Some (x / 2)) (number-there s n at x h fits ex) ∙ ap Some (sym (areas-at n at s h))
            ∙ sym (reached-found id n at s up q h (id-byte s n at octets h ∙ e))

    -- ---- the area at the first place with the ID

    module _ (fits : 6 * n ≤ length s) (i : ℕ) (p : i ≡ place_of id n s) where
      pub place_none : n ≤ i → None ≡ lookup id (areas_in n s)
      place_none h =
          let z : ltb (place_of id n s) n ≡ false = le-ltb (place_of id n s) n (subst (λ i. n ≤ i) p h) in
          ap (λ b. cond b (Some (get_or (areas_in n s) (place_of id n s) 0)) None) (sym z) ∙ sym (place-lookup id n s octets)

      pub place_found : i < n → (x : ℕ) → x ≡ number_at s (6 * i) → Some (x / 2) ≡ lookup id (areas_in n s)
      place_found h x ex =
          let z : ltb (place_of id n s) n ≡ true = lt-ltb (place_of id n s) n (subst (λ i. i < n) p h) in
          ap (λ x. Some (x / 2)) (number-there s n i x h fits ex) ∙ ap Some (sym (areas-at n i s h)) ∙ ap (λ i. Some (get_or (areas_in n s) i 0)) p
          ∙ ap (λ b. cond b (Some (get_or (areas_in n s) (place_of id n s) 0)) None) (sym z) ∙ sym (place-lookup id n s octets)

-- ---- from where the search for the next ID goes on

module _ (id least n : ℕ) (s : List ℕ) where
  -- anew,
  pub seek-anew : Passed id n s 0
  seek-anew = record { inside = omega arith; below = Below.none }

  -- or from a place before which all IDs are smaller
  pub seek-on : (at : ℕ) → Passed least n s at → least ≤ id → Passed id n s at
  seek-on at p h = record { inside = p.inside; below = below_up least id (take at (areas_in n s)) (omega arith) p.below }

  pub seek-past : (at : ℕ) → Reached id n s at → id < least → Passed least n s at
  seek-past at q h = record { inside = q.inside; below = below_up id least (take at (areas_in n s)) (omega arith) q.below }

-- ---- the place of an ID and of the area that has it

module _ (n at x d : ℕ) (s : List ℕ) (e : d ≡ sf031 x) where
  pub reached-as : Reached d n s at → Reached (sf031 x) n s at
  reached-as q = subst (λ d. Reached d n s at) e q

  pub reached-by : Reached (sf031 x) n s at → Reached d n s at
  reached-by q = subst (λ d. Reached d n s at) (sym e) q

pub reached-passed : (n at d : ℕ) (s : List ℕ) → Reached d n s at → Passed d n s at
reached-passed n at d s q = record { inside = q.inside; below = q.below }
