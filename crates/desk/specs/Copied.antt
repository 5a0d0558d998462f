-- Laws: the areas of a book that are copied are the same areas. Proved; assumes nothing.
use Rattle.std.specs.Prelude.{◌≡◌, Bool, ◌&&◌, leb, eqb, length, drop}
use Rattle.std.proofs.Math.Path.{refl, ap, ap₂, sym}
use Rattle.std.proofs.Common.{◌∙◌, arith, length-append, length-drop, take-append-drop, length-take-le}
use Rattle.std.proofs.Math.Bool.{true, false, cond}
use mathlib.Core.List.{List, [], ◌∷◌, ◌++◌}
use Prim.Native.Nat.{ℕ, zero, suc, ◌+◌, ◌*◌, ◌/◌, ◌%◌, ◌≤◌, ◌<◌}
use Rattle.std.proofs.Math.Dec.{ltb}
use Rattle.std.proofs.Math.ListN.{take}
use Rattle.std.proofs.lemmas.List.{take-append-le, drop-append-le}
use borrow.Author.Tests.{le-leb, ltb-true}
use Rattle.area.specs.Area.{sf031, is_area}
use Rattle.area.specs.Laws.{both_right}
use Rattle.area.specs.declared.AreaId.{AreaId}
use Rattle.sizes.specs.Sizes.{most_areas, book_bytes}
use Rattle.book.specs.Book.{head_sound, areas_sound, sound, place_of, found}
use Rattle.book.specs.Laws.{head-parts, sound-head, sound-room}
use Rattle.book.specs.declared.Book.{Book}
use Rattle.desk.specs.Take.{copied}

-- ---- what is said of the first areas does not depend on what comes behind them

data Six : List ℕ → Type 0 where
  six : (a b c d e f : ℕ) (s : List ℕ) → Six (a ∷ b ∷ c ∷ d ∷ e ∷ f ∷ s)

six-of : (s : List ℕ) → 6 ≤ length s → Six s
six-of [] h = absurd (omega arith)
six-of (a ∷ []) h = absurd (omega arith)
six-of (a ∷ b ∷ []) h = absurd (omega arith)
six-of (a ∷ b ∷ c ∷ []) h = absurd (omega arith)
six-of (a ∷ b ∷ c ∷ d ∷ []) h = absurd (omega arith)
six-of (a ∷ b ∷ c ∷ d ∷ e ∷ []) h = absurd (omega arith)
six-of (a ∷ b ∷ c ∷ d ∷ e ∷ f ∷ s) h = six a b c d e f s

same-sound : (n least : ℕ) (p t u : List ℕ) → length p ≡ 6 * n → areas_sound n least (p ++ t) ≡ areas_sound n least (p ++ u)
unfolding areas_sound
same-sound zero least p t u q = refl
same-sound (suc n) least p t u q = go p (six-of p (omega arith)) q (λ k s h. same-sound n k s t u h)
  where
    go : (p : List ℕ) → Six p → length p ≡ 6 * suc n → ((k : ℕ) (s : List ℕ) → length s ≡ 6 * n → areas_sound n k (s ++ t) ≡ areas_sound n k (s ++ u))
        → areas_sound (suc n) least (p ++ t) ≡ areas_sound (suc n) least (p ++ u)
    go p (six a b c d e f s) q ih =
        let v : ℕ = ((((a * 256 + b) * 256 + c) * 256 + d) * 256 + e) * 256 + f in
        ap (λ (y : Bool). eqb (v % 2) 0 && (leb least (sf031 (v / 2)) && (is_area (v / 2) && y))) (ih (suc (sf031 (v / 2))) s (omega arith))

same_place : (id n : ℕ) (p t u : List ℕ) → length p ≡ 6 * n → place_of id n (p ++ t) ≡ place_of id n (p ++ u)
unfolding place_of
same_place id zero p t u q = refl
same_place id (suc n) p t u q = go p (six-of p (omega arith)) q (λ s h. same_place id n s t u h)
  where
    go : (p : List ℕ) → Six p → length p ≡ 6 * suc n → ((s : List ℕ) → length s ≡ 6 * n → place_of id n (s ++ t) ≡ place_of id n (s ++ u))
        → place_of id (suc n) (p ++ t) ≡ place_of id (suc n) (p ++ u)
    go p (six a b c d e f s) q ih = ap (λ (k : ℕ). cond (eqb a id) zero (suc k)) (ih s (omega arith))

same-part : (k n : ℕ) (p t : List ℕ) → length p ≡ 6 * n → k < n → take 6 (drop (6 * k) (p ++ t)) ≡ take 6 (drop (6 * k) p)
same-part k n p t q h =
    ap (take 6) (drop-append-le (6 * k) p t (omega arith)) ∙ take-append-le 6 (drop (6 * k) p) t (omega (arith, length-drop (6 * k) p))

-- ---- a book that is copied from sound bytes to a slice with room for it

module _ (book : Book) (from to : List ℕ) (w : sound book from ≡ true) (room : book_bytes ≤ length to) where
  few : book.count ≤ most_areas
  few = (head-parts book (sound-head book from w)).1

  front : length (take (6 * book.count) from) ≡ 6 * book.count
  front = length-take-le (6 * book.count) from (omega (arith, few, sound-room book from w))

  split : take (6 * book.count) from ++ drop (6 * book.count) from ≡ from
  split = take-append-drop (6 * book.count) from

  long : book_bytes ≤ length (copied book from to)
  long =
      omega (
        arith,
        few,
        front,
        length-append (take (6 * book.count) from) (drop (6 * book.count) to),
        length-drop (6 * book.count) to,
      )

  areas : areas_sound book.count 0 (copied book from to) ≡ true
  unfolding sound
  areas =
      same-sound book.count 0 (take (6 * book.count) from) (drop (6 * book.count) to) (drop (6 * book.count) from) front
      ∙ ap (areas_sound book.count 0) split
      ∙ both_right (head_sound book) (areas_sound book.count 0 from) (both_right (leb book_bytes (length from)) (head_sound book && areas_sound book.count 0 from) w)

  -- it is sound there too,
  pub copied-sound : sound book (copied book from to) ≡ true
  unfolding sound
  copied-sound =
      ap₂ (λ x y. x && y) (le-leb book_bytes (length (copied book from to)) long) (ap₂ (λ x y. x && y) (sound-head book from w) areas)

  -- and every ID finds the same six bytes, or none
  pub copied-found : (id : AreaId) → found book (copied book from to) id ≡ found book from id
  unfolding found
  copied-found id =
      let n : ℕ = book.count in
      let p : List ℕ = take (6 * n) from in
      let k : place_of id.0 n (copied book from to) ≡ place_of id.0 n from
      = same_place id.0 n p (drop (6 * n) to) (drop (6 * n) from) front ∙ ap (place_of id.0 n) split in
      rw (copied-sound, w, k) (go (place_of id.0 n from) (ltb (place_of id.0 n from) n) refl)
    where
      go : (k : ℕ) (b : Bool) → ltb k book.count ≡ b → cond b (take 6 (drop (6 * k) (copied book from to))) [] ≡ cond b (take 6 (drop (6 * k) from)) []
      go k false e = refl
      go k true e =
          let h : k < book.count = ltb-true k book.count e in
          same-part k book.count (take (6 * book.count) from) (drop (6 * book.count) to) front h
          ∙ sym (same-part k book.count (take (6 * book.count) from) (drop (6 * book.count) from) front h)
          ∙ ap (λ s. take 6 (drop (6 * k) s)) split
