-- Laws: an ID among areas that ascend, and from where the search for the next one can go on. Proved; assumes nothing.
use Rattle.std.specs.Prelude.{◌≡◌, refl, Bool, true, false, List, [], ◌∷◌, ◌++◌, ℕ, zero, suc, ◌≤◌, ◌<◌, ltb, length, get_or, take, drop, Some, None}
use Rattle.std.proofs.Math.Path.{ap}
use Rattle.std.proofs.Common.{sym, ◌∙◌, arith, take-append-drop, drop_of_length-le, drop-cons, le-ltb, ltb-true, ltb-false, eq-eqb, ne_eqb}
use Rattle.std.proofs.Math.Bool.{cond}
use Rattle.area.specs.Area.{sf031}
use Rattle.book.specs.Book.{areas_in}
use Rattle.book.specs.Laws.{Ascending, length-areas}
use Rattle.book.specs.Take.{lookup, insert}
use Rattle.book.specs.TakeLaws.{or_else, lookup-append}

-- ---- IDs below a number

pub data Below : ℕ → List ℕ → Type 0 where
  none : {top : ℕ} → Below top []
  more : {top a : ℕ} {l : List ℕ} → sf031 a < top → Below top l → Below top (a ∷ l)

pub below_up : (top up : ℕ) (l : List ℕ) → top ≤ up → Below top l → Below up l
below_up top up [] h Below.none = Below.none
below_up top up (a ∷ l) h (Below.more k p) = let k' : sf031 a < up = omega arith in Below.more k' (below_up top up l h p)

pub below-snoc : (top a : ℕ) (l : List ℕ) → Below top l → sf031 a < top → Below top (l ++ (a ∷ []))
below-snoc top a [] Below.none h = Below.more h Below.none
below-snoc top a (b ∷ l) (Below.more k p) h = Below.more k (below-snoc top a l p h)

-- one area more of those at the start
pub below_next : (top i : ℕ) (l : List ℕ) → Below top (take i l) → i < length l → sf031 (get_or l i 0) < top → Below top (take (suc i) l)
below_next top i [] p h k = absurd (omega arith)
below_next top zero (a ∷ l) p h k = Below.more k Below.none
below_next top (suc i) (a ∷ l) (Below.more q p) h k = Below.more q (below_next top i l p (omega arith) k)

-- an ID that is above all of a list is not in it,
pub lookup-below : (id : ℕ) (l : List ℕ) → Below id l → lookup id l ≡ None
unfolding lookup
lookup-below id [] Below.none = refl
lookup-below id (a ∷ l) (Below.more h p) = rw (ne_eqb (sf031 a) id (λ e. omega arith)) (lookup-below id l p)

-- nor is one that is below all of ascending ones
pub lookup-under : (id least : ℕ) (l : List ℕ) → Ascending least l → id < least → lookup id l ≡ None
unfolding lookup
lookup-under id least [] Ascending.none q = refl
lookup-under id least (a ∷ l) (Ascending.more h k p) q =
    rw (ne_eqb (sf031 a) id (λ e. omega arith)) (lookup-under id (suc (sf031 a)) l p (omega arith))

ascending-drop : (r least : ℕ) (l : List ℕ) → Ascending least l → r < length l → Ascending (sf031 (get_or l r 0)) (drop r l)
ascending-drop r least [] p h = absurd (omega arith)
ascending-drop zero least (a ∷ l) (Ascending.more q k p) h = let e : sf031 a ≤ sf031 a = omega arith in Ascending.more e k p
ascending-drop (suc r) least (a ∷ l) (Ascending.more q k p) h = ascending-drop r (suc (sf031 a)) l p (omega arith)

-- a new area takes its place behind those with a smaller ID
pub take-insert : (a r : ℕ) (l : List ℕ) → Below (sf031 a) (take r l) → r ≤ length l → take r (insert a l) ≡ take r l
unfolding insert
take-insert a zero l p h = refl
take-insert a (suc r) [] p h = absurd (omega arith)
take-insert a (suc r) (b ∷ l) (Below.more k p) h = rw (le-ltb (sf031 a) (sf031 b) (omega arith)) (ap (λ l. b ∷ l) (take-insert a r l p (omega arith)))

-- ---- the search

-- of n areas in a book's bytes, the first i have IDs below `top`
pub record Passed (top n : ℕ) (s : List ℕ) (i : ℕ) : Type 0 where
  pub inside : i ≤ n
  pub below : Below top (take i (areas_in n s))

-- and the next one has not: so many have a smaller ID than this one
pub record Reached (id n : ℕ) (s : List ℕ) (r : ℕ) : Type 0 where
  pub inside : r ≤ n
  pub below : Below id (take r (areas_in n s))
  pub above : r < n → id ≤ sf031 (get_or (areas_in n s) r 0)

module _ (id n r : ℕ) (s : List ℕ) (up : Ascending 0 (areas_in n s)) (q : Reached id n s r) where
  behind : lookup id (areas_in n s) ≡ lookup id (drop r (areas_in n s))
  behind =
      ap (lookup id) (sym (take-append-drop r (areas_in n s)))
      ∙ lookup-append id (take r (areas_in n s)) (drop r (areas_in n s))
      ∙ ap (λ f. or_else f (lookup id (drop r (areas_in n s)))) (lookup-below id (take r (areas_in n s)) q.below)

  pub reached-end : n ≤ r → lookup id (areas_in n s) ≡ None
  unfolding lookup
  reached-end h = behind ∙ ap (lookup id) (drop_of_length-le (areas_in n s) {i = r} (omega (arith, length-areas n s)))

  module _ (h : r < n) where
    pub reached-other : (sf031 (get_or (areas_in n s) r 0) ≡ id → ⊥) → lookup id (areas_in n s) ≡ None
    reached-other k =
        behind
        ∙ lookup-under id (sf031 (get_or (areas_in n s) r 0)) (drop r (areas_in n s)) (ascending-drop r 0 (areas_in n s) up (omega (arith, length-areas n s))) (apart (q.above h) k)
      where
        apart : {x y : ℕ} → x ≤ y → (y ≡ x → ⊥) → x < y
        apart {x} {y} h f = go (ltb x y) refl
          where
            go : (t : Bool) → ltb x y ≡ t → x < y
            go true e = ltb-true x y e
            go false e = absurd (f (omega (arith, ltb-false x y e)))

    pub reached-found : sf031 (get_or (areas_in n s) r 0) ≡ id → lookup id (areas_in n s) ≡ Some (get_or (areas_in n s) r 0)
    unfolding lookup
    reached-found e =
        behind ∙ ap (lookup id) (drop-cons (areas_in n s) r 0 (omega (arith, length-areas n s)))
        ∙ ap (λ b. cond b (Some (get_or (areas_in n s) r 0)) (lookup id (drop (suc r) (areas_in n s)))) (eq-eqb (sf031 (get_or (areas_in n s) r 0)) id e)
