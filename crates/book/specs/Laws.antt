-- Laws: the areas of a book and its bytes. Proved; assumes nothing.
use Rattle.std.specs.Prelude.{◌≡◌, refl, Bool, true, false, not, ◌&&◌, ◌||◌, List, [], ◌∷◌, ◌++◌, ℕ, zero, suc, ◌+◌, ◌*◌, ◌/◌, ◌%◌, ◌^◌, ◌≤◌, ◌<◌, leb, eqb, length, get_or, take, drop}
use Rattle.std.proofs.Common.{ap, ap₂, sym, ◌∙◌, append_assoc, arith, length-append, length-drop, take-add, drop-drop}
use Rattle.std.specs.Bool.{beq}
use borrow.Author.Tests.{le-leb, leb-true, eq-eqb, eqb-true, ne_eqb}
use Rattle.bits.specs.Bits.{Bytes}
use Rattle.bits.specs.Laws.{bytes_drop}
use Rattle.area.specs.Area.{sf031, is_area, bytes_of, number_in}
use Rattle.area.specs.Laws.{number-bytes, bytes-number, area-lt, half-number, both_left, both_right}
use Rattle.sizes.specs.Sizes.{most_areas, book_bytes}
use Rattle.book.specs.Book.{area_in, areas_in, bytes_of_all, siou_sound, head_sound, areas_sound, sound}
use Rattle.book.specs.declared.Book.{Book}

-- ---- areas in a row

pub length-areas : (n : ℕ) (s : List ℕ) → length (areas_in n s) ≡ n
unfolding areas_in
length-areas zero s = refl
length-areas (suc n) s = ap suc (length-areas n (drop 6 s))

pub length-bytes : (l : List ℕ) → length (bytes_of_all l) ≡ 6 * length l
unfolding bytes_of_all
length-bytes [] = refl
length-bytes (a ∷ l) = length-append (bytes_of a) (bytes_of_all l) ∙ omega (arith, length-bytes l)

pub bytes-join : (l m : List ℕ) → bytes_of_all (l ++ m) ≡ bytes_of_all l ++ bytes_of_all m
unfolding bytes_of_all
bytes-join [] m = refl
bytes-join (a ∷ l) m = ap (λ z. bytes_of a ++ z) (bytes-join l m) ∙ sym (append_assoc (bytes_of a) (bytes_of_all l) (bytes_of_all m))

-- numbers of 47 bits, ascending by ID, the first ID being `least` or more
pub data Ascending : ℕ → List ℕ → Type 0 where
  none : {least : ℕ} → Ascending least []
  more : {least a : ℕ} {l : List ℕ} → least ≤ sf031 a → a < 2 ^ 47 → Ascending (suc (sf031 a)) l → Ascending least (a ∷ l)

-- each is a number of 47 bits
pub small_at : (l : List ℕ) (least i : ℕ) → Ascending least l → i < length l → get_or l i 0 < 2 ^ 47
small_at [] least i p h = absurd (omega arith)
small_at (a ∷ l) least zero (Ascending.more q k p) h = k
small_at (a ∷ l) least (suc i) (Ascending.more q k p) h = small_at l _ i p (omega arith)

-- the i-th area
pub areas-at : (n i : ℕ) (s : List ℕ) → i < n → get_or (areas_in n s) i 0 ≡ area_in (drop (6 * i) s)
unfolding areas_in
areas-at zero i s h = absurd (omega arith)
areas-at (suc n) zero s h = refl
areas-at (suc n) (suc i) s h = areas-at n i (drop 6 s) (omega arith) ∙ ap area_in (drop-drop (6 * i) 6 s ∙ ap (λ k. drop k s) {x = 6 + 6 * i} {y = 6 * suc i} (omega arith))

-- each is an area
pub data Areas : List ℕ → Type 0 where
  none : Areas []
  more : {a : ℕ} {l : List ℕ} → is_area a ≡ true → Areas l → Areas (a ∷ l)

-- a sound head says an AIOU of 15 at most, at most so many areas, and a sound SIOU
pub head-parts : (book : Book) → head_sound book ≡ true → (book.aiou_plus_one ≤ 16) × (book.count ≤ most_areas) × (siou_sound book.aiou_plus_one book.siou_plus_one ≡ true)
unfolding head_sound
head-parts book e =
    let u : (siou_sound book.aiou_plus_one book.siou_plus_one && (leb book.aiou_plus_one 16 && leb book.count most_areas)) ≡ true
    = both_right (beq (eqb book.aiou_plus_one 0) (eqb book.count 0)) _ e in
    let r : (leb book.aiou_plus_one 16 && leb book.count most_areas) ≡ true = both_right (siou_sound book.aiou_plus_one book.siou_plus_one) _ u in (
      leb-true _ _ (both_left (leb book.aiou_plus_one 16) (leb book.count most_areas) r),
      leb-true _ _ (both_right (leb book.aiou_plus_one 16) (leb book.count most_areas) r),
      both_left (siou_sound book.aiou_plus_one book.siou_plus_one) _ u,
    )

-- a sound SIOU is 511 at most, or unknown; it is unknown where there is no AIOU
pub siou-most : (aiou-plus-one siou-plus-one : ℕ) → siou_sound aiou-plus-one siou-plus-one ≡ true → siou-plus-one ≤ 512
unfolding siou_sound
siou-most aiou-plus-one siou-plus-one e = leb-true siou-plus-one 512 (both_left (leb siou-plus-one 512) _ e)

pub siou-none : (siou-plus-one : ℕ) → siou_sound 0 siou-plus-one ≡ true → siou-plus-one ≡ 0
unfolding siou_sound
siou-none siou-plus-one e = eqb-true siou-plus-one 0 (both_right (leb siou-plus-one 512) _ e)

-- with an AIOU every SIOU up to 511 is sound, and with or without one an unknown one
pub siou-some : (aiou siou-plus-one : ℕ) → siou-plus-one ≤ 512 → siou_sound (suc aiou) siou-plus-one ≡ true
unfolding siou_sound
siou-some aiou siou-plus-one h = rw (le-leb siou-plus-one 512 h, ne_eqb (suc aiou) 0 (λ q. omega arith))

pub siou-unknown : (aiou-plus-one : ℕ) → siou_sound aiou-plus-one 0 ≡ true
unfolding siou_sound
siou-unknown aiou-plus-one = go (eqb aiou-plus-one 0)
  where
    go : (b : Bool) → (true && (not b || true)) ≡ true
    go true = refl
    go false = refl

-- what it is that bytes are sound, area by area
module _ (n least : ℕ) (s : List ℕ) (e : areas_sound (suc n) least s ≡ true) where
  rest-1 : (leb least (sf031 (area_in s)) && (is_area (area_in s) && areas_sound n (suc (sf031 (area_in s))) (drop 6 s))) ≡ true
  unfolding areas_sound
  rest-1 = both_right (eqb (number_in s % 2) 0) _ e

  rest-2 : (is_area (area_in s) && areas_sound n (suc (sf031 (area_in s))) (drop 6 s)) ≡ true
  rest-2 = both_right (leb least (sf031 (area_in s))) _ rest-1

  first-even : number_in s % 2 ≡ 0
  unfolding areas_sound
  first-even = eqb-true _ _ (both_left (eqb (number_in s % 2) 0) _ e)

  first-least : least ≤ sf031 (area_in s)
  first-least = leb-true _ _ (both_left (leb least (sf031 (area_in s))) _ rest-1)

  first-area : is_area (area_in s) ≡ true
  first-area = both_left (is_area (area_in s)) _ rest-2

  others : areas_sound n (suc (sf031 (area_in s))) (drop 6 s) ≡ true
  others = both_right (is_area (area_in s)) _ rest-2

-- sound bytes hold areas, ascending
pub sound-ascending : (n least : ℕ) (s : List ℕ) → areas_sound n least s ≡ true → Ascending least (areas_in n s)
unfolding areas_in
sound-ascending zero least s e = Ascending.none
sound-ascending (suc n) least s e =
    Ascending.more (first-least n least s e) (area-lt (area_in s) (first-area n least s e)) (sound-ascending n (suc (sf031 (area_in s))) (drop 6 s) (others n least s e))

pub sound-each : (n least : ℕ) (s : List ℕ) → areas_sound n least s ≡ true → Areas (areas_in n s)
unfolding areas_in
sound-each zero least s e = Areas.none
sound-each (suc n) least s e = Areas.more (first-area n least s e) (sound-each n (suc (sf031 (area_in s))) (drop 6 s) (others n least s e))

-- and they are the bytes of those
sound-image : (n least : ℕ) (s : List ℕ) → Bytes s → 6 * n ≤ length s → areas_sound n least s ≡ true → take (6 * n) s ≡ bytes_of_all (areas_in n s)
unfolding areas_in bytes_of_all
sound-image zero least s b h e = refl
sound-image (suc n) least s b h e =
    ap (λ k. take k s) {x = 6 * suc n} {y = 6 + 6 * n} (omega arith) ∙ take-add 6 (6 * n) s
    ∙ ap₂ (λ x y. x ++ y) (sym (bytes-number s b (omega arith) (first-even n least s e)))
    (sound-image n (suc (sf031 (area_in s))) (drop 6 s) (bytes_drop 6 b) (omega (arith, length-drop 6 s)) (others n least s e))

pub record Sound (n least : ℕ) (s : List ℕ) : Type 0 where
  pub ascending : Ascending least (areas_in n s)
  pub areas : Areas (areas_in n s)
  pub image : take (6 * n) s ≡ bytes_of_all (areas_in n s)

-- what a sound book has
module _ (book : Book) (s : List ℕ) (e : sound book s ≡ true) where
  sound-rest : (head_sound book && areas_sound book.count 0 s) ≡ true
  unfolding sound
  sound-rest = both_right (leb book_bytes (length s)) (head_sound book && areas_sound book.count 0 s) e

  pub sound-head : head_sound book ≡ true
  sound-head = both_left (head_sound book) (areas_sound book.count 0 s) sound-rest

  pub sound-room : book_bytes ≤ length s
  unfolding sound
  sound-room = leb-true _ _ (both_left (leb book_bytes (length s)) (head_sound book && areas_sound book.count 0 s) e)

  pub sound-areas : areas_sound book.count 0 s ≡ true
  sound-areas = both_right (head_sound book) (areas_sound book.count 0 s) sound-rest

  pub sound-lists : Bytes s → Sound book.count 0 s
  sound-lists b =
      record {
        ascending = sound-ascending book.count 0 s sound-areas;
        areas = sound-each book.count 0 s sound-areas;
        image = sound-image book.count 0 s b (omega (arith, head-parts book sound-head, sound-room)) sound-areas;
      }

-- and bytes of areas, ascending, are sound
pub areas-bytes : (l t : List ℕ) (least : ℕ) → Ascending least l → areas_in (length l) (bytes_of_all l ++ t) ≡ l
unfolding areas_in bytes_of_all
areas-bytes [] t least p = refl
areas-bytes (a ∷ l) t least (Ascending.more h k p) =
    let e : (bytes_of a ++ bytes_of_all l) ++ t ≡ bytes_of a ++ (bytes_of_all l ++ t) = append_assoc (bytes_of a) (bytes_of_all l) t in
    ap₂ (λ x y. x ∷ y)
    (ap area_in e ∙ ap (λ n. n / 2) (number-bytes a (bytes_of_all l ++ t) k) ∙ half-number a)
    (areas-bytes l t _ p)

pub sound-bytes : (l t : List ℕ) (least : ℕ) → Ascending least l → Areas l → areas_sound (length l) least (bytes_of_all l ++ t) ≡ true
unfolding areas_sound bytes_of_all
sound-bytes [] t least p q = refl
sound-bytes (a ∷ l) t least (Ascending.more h k p) (Areas.more g q) =
    let s : List ℕ = bytes_of a ++ (bytes_of_all l ++ t) in
    let n : number_in s ≡ 2 * a = number-bytes a (bytes_of_all l ++ t) k in
    let e : area_in s ≡ a = ap (λ n. n / 2) n ∙ half-number a in
    let z₀ : eqb (number_in s % 2) 0 ≡ true = eq-eqb _ _ (ap (λ n. n % 2) n ∙ omega arith) in
    let z₁ : leb least (sf031 (area_in s)) ≡ true = ap (λ a. leb least (sf031 a)) e ∙ le-leb _ _ h in
    let z₂ : is_area (area_in s) ≡ true = ap is_area e ∙ g in
    let z₃ : areas_sound (length l) (suc (sf031 (area_in s))) (bytes_of_all l ++ t) ≡ true
    = ap (λ a. areas_sound (length l) (suc (sf031 a)) (bytes_of_all l ++ t)) e ∙ sound-bytes l t (suc (sf031 a)) p q in
    ap₂ (λ x y. x && y) z₀ (ap₂ (λ x y. x && y) z₁ (ap₂ (λ x y. x && y) z₂ z₃))
