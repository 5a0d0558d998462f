-- Laws: what is found in the bytes of a sound book is what is held under the ID. Proved; assumes nothing.
use Rattle.std.specs.Prelude.{◌≡◌, refl, Bool, true, false, List, [], ◌∷◌, ◌++◌, ℕ, zero, suc, ◌+◌, ◌*◌, ◌≤◌, ◌<◌, ltb, eqb, length, take, drop, Some, None}
use Rattle.std.proofs.Common.{ap, ap₂, sym, ◌∙◌, arith, take-append-drop, drop-drop, lt-ltb, le-ltb, ltb-true, ltb-false}
use Rattle.std.proofs.Math.Bool.{cond}
use Rattle.bits.specs.Bits.{Bytes}
use Rattle.area.specs.Area.{sf031, bytes_of}
use Rattle.area.specs.declared.AreaId.{AreaId}
use Rattle.book.specs.Book.{areas_in, bytes_of_all, sound, place_of, found}
use Rattle.book.specs.Laws.{Sound, length-areas, sound-lists}
use Rattle.book.specs.Take.{lookup, looked}
use Rattle.book.specs.declared.Book.{Book}
use Rattle.book.specs.Results.{Found}

-- ---- `looked`: with the bytes there, and with too few

module _ (id n : ℕ) (s : List ℕ) where
  pub looked-there : 6 * n ≤ length s → looked id n s ≡ lookup id (areas_in n s)
  unfolding looked
  looked-there h = rw (le-ltb (length s) (6 * n) h)

  pub looked-none : length s < 6 * n → looked id n s ≡ None
  unfolding looked
  looked-none h = rw (lt-ltb (length s) (6 * n) h)

-- the six bytes of the area that is looked up, or none
abbrev pub bytes_of_found : Found → List ℕ
bytes_of_found (Some a) = bytes_of a
bytes_of_found None = []

found_part : (id : ℕ) (l t : List ℕ)
    → cond (ltb (place_of id (length l) (bytes_of_all l ++ t)) (length l)) (take 6 (drop (6 * place_of id (length l) (bytes_of_all l ++ t)) (bytes_of_all l ++ t))) [] ≡ bytes_of_found (lookup id l)
unfolding place_of lookup bytes_of_all
found_part id [] t = refl
found_part id (a ∷ l) t = go (eqb (sf031 a) id) (found_part id l t)
  where
    s : List ℕ
    s = bytes_of_all l ++ t

    go : (b : Bool) → cond (ltb (place_of id (length l) s) (length l)) (take 6 (drop (6 * place_of id (length l) s) s)) [] ≡ bytes_of_found (lookup id l)
        → cond (ltb (cond b zero (suc (place_of id (length l) s))) (suc (length l))) (take 6 (drop (6 * cond b zero (suc (place_of id (length l) s))) (bytes_of a ++ s))) []
        ≡ bytes_of_found (cond b (Some a) (lookup id l))
    go true ih = rw (lt-ltb 0 (suc (length l)) (omega arith))
    go false ih =
        let x : ℕ = place_of id (length l) s in
        let e : drop (6 * suc x) (bytes_of a ++ s) ≡ drop (6 * x) s
        = ap (λ k. drop k (bytes_of a ++ s)) {x = 6 * suc x} {y = 6 + 6 * x} (omega arith) ∙ sym (drop-drop (6 * x) 6 (bytes_of a ++ s)) in
        ap₂ (λ b p. cond b (take 6 p) []) (suc-less x (length l)) e ∙ ih
      where
        suc-less : (x n : ℕ) → ltb (suc x) (suc n) ≡ ltb x n
        suc-less x n = by (ltb x n) refl
          where
            by : (b : Bool) → ltb x n ≡ b → ltb (suc x) (suc n) ≡ b
            by true q = lt-ltb (suc x) (suc n) (omega (arith, ltb-true x n q))
            by false q = le-ltb (suc x) (suc n) (omega (arith, ltb-false x n q))

-- what is found in a sound book is what is held under the ID
module _ (book : Book) (s : List ℕ) (w : sound book s ≡ true) where
  pub found_in : (id : AreaId) (l t : List ℕ) → s ≡ bytes_of_all l ++ t → book.count ≡ length l → found book s id ≡ bytes_of_found (lookup id.0 l)
  unfolding found
  found_in id l t e n =
      rw w
      (ap₂ (λ n s. cond (ltb (place_of id.0 n s) n) (take 6 (drop (6 * place_of id.0 n s) s)) []) n e ∙ found_part id.0 l t)

  pub found-is : Bytes s → (id : AreaId) → found book s id ≡ bytes_of_found (lookup id.0 (areas_in book.count s))
  found-is b id =
      let p : Sound book.count 0 s = sound-lists book s w b in
      found_in id (areas_in book.count s) (drop (6 * book.count) s) (sym (take-append-drop (6 * book.count) s) ∙ ap (λ l. l ++ drop (6 * book.count) s) p.image)
      (sym (length-areas book.count s))
