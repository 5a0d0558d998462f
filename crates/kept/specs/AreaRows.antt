-- Laws: so many areas, ascending, and what it is that one of them fits. Proved; assumes nothing.
use Rattle.std.specs.Prelude.{◌≡◌, refl, true, ◌&&◌, List, [], ◌∷◌, ℕ, zero, suc, ◌+◌, ◌^◌, ◌≤◌, ◌<◌, leb, length}
use Rattle.std.proofs.Common.{ap, ap₂, sym, subst, arith, le-leb, leb-true}
use Rattle.area.specs.Area.{sf031, is_area}
use Rattle.area.specs.Laws.{area-lt, both_left, both_right}
use Rattle.area.specs.Plain.{plain, plain-id, plain-area}
use Rattle.book.specs.Book.{areas_in, areas_sound, sound}
use Rattle.book.specs.Laws.{Ascending, Areas, sound-areas, sound-ascending, sound-each, length-areas}
use Rattle.book.specs.declared.Book.{Book}
use Rattle.kept.specs.Kept.{fits}

-- ---- an area that fits

pub fits-parts : (others least a : ℕ) → fits others least a ≡ true → (least ≤ sf031 a) × (sf031 a + others ≤ 255) × (is_area a ≡ true)
fits-parts others least a e =
    let r : (leb (sf031 a + others) 255 && is_area a) ≡ true = both_right (leb least (sf031 a)) _ e in
    (leb-true _ _ (both_left (leb least (sf031 a)) (leb (sf031 a + others) 255 && is_area a) e), leb-true _ _ (both_left (leb (sf031 a + others) 255) (is_area a) r), both_right (leb (sf031 a + others) 255) (is_area a) r)

fits-if : (others least a : ℕ) → least ≤ sf031 a → sf031 a + others ≤ 255 → is_area a ≡ true → fits others least a ≡ true
fits-if others least a k h g = ap₂ (λ x y. x && y) (le-leb least (sf031 a) k) (ap₂ (λ x y. x && y) (le-leb (sf031 a + others) 255 h) g)

pub fits-small : (others least a : ℕ) → fits others least a ≡ true → a < 2 ^ 64
fits-small others least a e = omega (arith, area-lt a (fits-parts others least a e).2)

-- ---- so many areas, ascending

pub record Row (n least : ℕ) (l : List ℕ) : Type 0 where
  pub count : length l ≡ n
  pub ascending : Ascending least l
  pub areas : Areas l

pub row-none : (least : ℕ) → Row 0 least []
row-none least = record { count = refl; ascending = Ascending.none; areas = Areas.none }

pub row_more : (n least a : ℕ) (l : List ℕ) → fits n least a ≡ true → Row n (suc (sf031 a)) l → Row (suc n) least (a ∷ l)
row_more n least a l f r =
    let w = fits-parts n least a f in
    record { count = ap suc r.count; ascending = Ascending.more w.0 (area-lt a w.2) r.ascending; areas = Areas.more w.2 r.areas }

-- IDs are below 256, so that many areas leave room below
ids-left : (l : List ℕ) (least : ℕ) → least ≤ 256 → Ascending least l → least + length l ≤ 256
ids-left [] least h p = omega arith
ids-left (a ∷ l) least h (Ascending.more k s p) = omega (arith, ids-left l (suc (sf031 a)) (omega arith) p)

-- the first fits, and the others are a row behind it
module _ (n least a : ℕ) (l : List ℕ) (r : Row (suc n) least (a ∷ l)) where
  pub row_fits : fits n least a ≡ true
  row_fits = go r.ascending r.areas
    where
      go : Ascending least (a ∷ l) → Areas (a ∷ l) → fits n least a ≡ true
      go (Ascending.more k s p) (Areas.more g q) =
          let c : suc (length l) ≡ suc n = r.count in
          fits-if n least a k (omega (arith, ids-left l (suc (sf031 a)) (omega arith) p)) g

  pub row-tail : Row n (suc (sf031 a)) l
  row-tail = go r.ascending r.areas
    where
      go : Ascending least (a ∷ l) → Areas (a ∷ l) → Row n (suc (sf031 a)) l
      go (Ascending.more k s p) (Areas.more g q) =
          let c : suc (length l) ≡ suc n = r.count in
          record { count = omega arith; ascending = p; areas = q }

-- a sound book's areas
pub sound-row : (book : Book) (s : List ℕ) → sound book s ≡ true → Row book.count 0 (areas_in book.count s)
sound-row book s e =
    let r : areas_sound book.count 0 s ≡ true = sound-areas book s e in
    record { count = length-areas book.count s; ascending = sound-ascending book.count 0 s r; areas = sound-each book.count 0 s r }

-- ---- areas that can follow: as many as there are IDs left

unfoldable pub following : ℕ → ℕ → List ℕ
following zero least = []
following (suc n) least = plain least ∷ following n (suc least)

pub following-row : (n least : ℕ) → least + n ≤ 256 → Row n least (following n least)
unfolding following
following-row zero least h = row-none least
following-row (suc n) least h =
    let e : sf031 (plain least) ≡ least = plain-id least (omega arith) in
    row_more n least (plain least) (following n (suc least)) (fits-if n least (plain least) (omega arith) (omega arith) (plain-area least (omega arith)))
    (subst (λ i. Row n (suc i) (following n (suc least))) (sym e) (following-row n (suc least) (omega arith)))
