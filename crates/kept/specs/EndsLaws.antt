-- Laws: the numbers of a kept book say form, book and areas; numbers that begin those of a sound book; bytes that read, and that are LEFTOVER. Proved; assumes nothing.
use Rattle.std.specs.Prelude.{◌≡◌, Bool, ◌||◌, ℕ, zero, suc, ◌*◌, ◌≤◌, leb, eqb, length, drop, replicate}
use Rattle.std.proofs.Math.Path.{refl}
use Rattle.std.proofs.Common.{ap, ap₂, sym, ◌∙◌, arith, le-leb, ne_eqb}
use Rattle.std.proofs.Math.Bool.{true, false, cond}
use Rattle.std.proofs.lemmas.Bool.{false≢true}
use mathlib.Core.List.{List, [], ◌∷◌, ◌++◌, append-nil}
use Rattle.std.proofs.lemmas.List.{length-replicate}
use Rattle.answer.specs.declared.Refusal.TheVariants.{Leftover}
use Rattle.bits.specs.Bits.{Bytes}
use Rattle.bits.specs.Laws.{bytes-none, bytes-cons, bytes-append, bytes_drop}
use Rattle.area.specs.Laws.{bytes-area}
use Rattle.sizes.specs.Sizes.{most_areas, book_bytes}
use Rattle.book.specs.Book.{book_of, areas_in, bytes_of_all, siou_sound, head_sound, sound}
use Rattle.book.specs.Laws.{head-parts, siou-unknown}
use Rattle.book.specs.declared.Book.{Book}
use Rattle.kept.specs.Kept.{newest_form, is_form, has_siou, head_in, numbers_in, said, read_head, kept, not-kept, whole, behind_head}
use Rattle.kept.specs.AreaRows.{Row, sound-row, following, following-row}
use Rattle.kept.specs.RoundTrip.{Says, in-sound, unsaid, past-book}
use Rattle.kept.specs.ReadLaws.{IsKept, kept-sound, kept-areas, left-length}
use Rattle.kept.specs.Ends.{SoundBook, kept_book, IsBook, GoesOn, Begins, CanFollow}

-- ---- the numbers of a kept book

-- those before the count
abbrev pub head_of : (f aiou siou : ℕ) → List ℕ
head_of f aiou siou = f ∷ aiou ∷ cond (has_siou f) (siou ∷ []) []

pub numbers-head : (f : ℕ) (book : Book) (l : List ℕ) → head_of f book.aiou_plus_one book.siou_plus_one ++ (book.count ∷ l) ≡ numbers_in f book l
unfolding numbers_in
numbers-head f book l = go (has_siou f)
  where
    go : (b : Bool)
        → f ∷ book.aiou_plus_one ∷ (cond b (book.siou_plus_one ∷ []) [] ++ (book.count ∷ l)) ≡ f ∷ book.aiou_plus_one ∷ cond b (book.siou_plus_one ∷ book.count ∷ l) (book.count ∷ l)
    go true = refl
    go false = refl

pub numbers_more : (f : ℕ) (book : Book) (l m : List ℕ) → numbers_in f book l ++ m ≡ numbers_in f book (l ++ m)
unfolding numbers_in
numbers_more f book l m = go (has_siou f)
  where
    go : (b : Bool) → f ∷ book.aiou_plus_one ∷ (cond b (book.siou_plus_one ∷ book.count ∷ l) (book.count ∷ l) ++ m)
        ≡ f ∷ book.aiou_plus_one ∷ cond b (book.siou_plus_one ∷ book.count ∷ (l ++ m)) (book.count ∷ (l ++ m))
    go true = refl
    go false = refl

-- they say form, book and areas
pub record Same (f g : ℕ) (book other : Book) (l m : List ℕ) : Type 0 where
  pub forms : f ≡ g
  pub books : book ≡ other
  pub areas : l ≡ m

pub numbers-same : (f g : ℕ) (book other : Book) (l m : List ℕ) → (has_siou f || eqb book.siou_plus_one 0) ≡ true → (has_siou g || eqb other.siou_plus_one 0) ≡ true
    → numbers_in f book l ≡ numbers_in g other m → Same f g book other l m
unfolding numbers_in
numbers-same f g book other l m h k e =
    let ef : f ≡ g = first e in
    let ea : book.aiou_plus_one ≡ other.aiou_plus_one = second e in
    go (has_siou g) (has_siou f) ef ea (ap has_siou ef) refl (third e)
  where
    first : {x y : ℕ} {s t : List ℕ} → x ∷ s ≡ y ∷ t → x ≡ y
    first e = cc

    second : {x y u v : ℕ} {s t : List ℕ} → x ∷ u ∷ s ≡ y ∷ v ∷ t → u ≡ v
    second e = cc

    third : {x y u v : ℕ} {s t : List ℕ} → x ∷ u ∷ s ≡ y ∷ v ∷ t → s ≡ t
    third e = cc

    all : book.aiou_plus_one ≡ other.aiou_plus_one → book.siou_plus_one ≡ other.siou_plus_one → book.count ≡ other.count → book ≡ other
    all ea es ec = ap₂ (λ x y. book_of x y book.count) ea es ∙ ap (book_of other.aiou_plus_one other.siou_plus_one) ec

    go : (a b : Bool) → f ≡ g → book.aiou_plus_one ≡ other.aiou_plus_one → b ≡ a → has_siou g ≡ a
        → cond b (book.siou_plus_one ∷ book.count ∷ l) (book.count ∷ l) ≡ cond a (other.siou_plus_one ∷ other.count ∷ m) (other.count ∷ m) → Same f g book other l m
    go true true ef ea q z e =
        let es : book.siou_plus_one ≡ other.siou_plus_one = cc in
        let ec : book.count ≡ other.count = cc in
        let el : l ≡ m = cc in
        record { forms = ef; books = all ea es ec; areas = el }
    go false false ef ea q z e =
        let ec : book.count ≡ other.count = cc in
        let el : l ≡ m = cc in
        record { forms = ef; books = all ea (unsaid f book.siou_plus_one h (ap has_siou ef ∙ z) ∙ sym (unsaid g other.siou_plus_one k z)) ec; areas = el }
    go true false ef ea q z e = absurd (false≢true q)
    go false true ef ea q z e = absurd (false≢true (sym q))

-- ---- a sound book of given areas

pub bytes-areas : (l : List ℕ) → Bytes (bytes_of_all l)
unfolding bytes_of_all
bytes-areas [] = bytes-none
bytes-areas (a ∷ l) = bytes-append (bytes-area a) (bytes-areas l)

bytes-zeros : (n : ℕ) → Bytes (replicate n 0)
bytes-zeros zero = bytes-none
bytes-zeros (suc n) = bytes-cons (omega arith) (bytes-zeros n)

pub record Made (f : ℕ) (book : Book) (l : List ℕ) : Type 0 where
  pub bytes : List ℕ
  pub are-bytes : Bytes bytes
  pub is-sound : sound book bytes ≡ true
  pub says : Says f book
  pub holds : areas_in book.count bytes ≡ l

abbrev pub sound_book : {f : ℕ} {book : Book} {l : List ℕ} → Made f book l → SoundBook
sound_book {f} {book} m =
    record { book = book; bytes = m.bytes; are-bytes = m.are-bytes; is-sound = m.is-sound; form = f; is-form = m.says.is-form; in-form = m.says.in-form }

made_in : (lent : List ℕ) → Bytes lent → book_bytes ≤ length lent → (f : ℕ) (book : Book) (l : List ℕ) → Says f book → Row book.count 0 l → Made f book l
made_in lent b h f book l w r =
    let t : List ℕ = drop (6 * length l) lent in
    let k : IsKept book l = record { head = in-sound f book w.in-form; row = r } in
    record {
      bytes = bytes_of_all l ++ t;
      are-bytes = bytes-append (bytes-areas l) (bytes_drop (6 * length l) b);
      is-sound = kept-sound book l t k (omega (arith, left-length book l lent k h));
      says = w;
      holds = kept-areas book l t k;
    }

pub made : (f : ℕ) (book : Book) (l : List ℕ) → Says f book → Row book.count 0 l → Made f book l
made = made_in (replicate book_bytes 0) (bytes-zeros book_bytes) (omega (arith, length-replicate {A = ℕ} book_bytes 0))

-- numbers that begin those of a sound book
module _ (numbers : List ℕ) (f : ℕ) (book : Book) (l : List ℕ) (w : Says f book) (r : Row book.count 0 l) where
  pub begins-by : (next : ℕ) (others : List ℕ) → numbers ++ (next ∷ others) ≡ numbers_in f book l → Begins numbers
  begins-by next others e =
      let m : Made f book l = made f book l w r in
      record { of = sound_book m; next = next; others = others; goes_on = e ∙ ap (numbers_in f book) (sym m.holds) }

  pub can-by : (others : List ℕ) → numbers ++ others ≡ numbers_in f book l → CanFollow numbers
  can-by others e =
      let m : Made f book l = made f book l w r in
      record { of = sound_book m; others = others; goes_on = e ∙ ap (numbers_in f book) (sym m.holds) }

-- ---- with every AIOU, and with none, there is a sound book, and with every SIOU that is sound beside it

record Somewhere (f aiou siou : ℕ) : Type 0 where
  count : ℕ
  says : Says f (book_of aiou siou count)

some : (f aiou siou : ℕ) → is_form f ≡ true → aiou ≤ 16 → siou_sound aiou siou ≡ true → (has_siou f || eqb siou 0) ≡ true → Somewhere f aiou siou
unfolding head_in head_sound
some f zero siou i h g k = record { count = 0; says = record { is-form = i; in-form = rw (g, k) } }
some f (suc aiou) siou i h g k =
    let y : eqb (suc aiou) 0 ≡ false = ne_eqb (suc aiou) 0 (λ q. omega arith) in
    let z : leb (suc aiou) 16 ≡ true = le-leb (suc aiou) 16 h in
    record { count = 1; says = record { is-form = i; in-form = rw (y, g, z, k) } }

module _ (f aiou siou : ℕ) (w : Somewhere f aiou siou) where
  some-row : Row w.count 0 (following w.count 0)
  some-row =
      let h : w.count ≤ most_areas = (head-parts (book_of aiou siou w.count) (in-sound f (book_of aiou siou w.count) w.says.in-form)).1 in
      following-row w.count 0 (omega arith)

  some-begins : (numbers : List ℕ) (next : ℕ) (others : List ℕ) → numbers ++ (next ∷ others) ≡ numbers_in f (book_of aiou siou w.count) (following w.count 0) → Begins numbers
  some-begins numbers next others e = begins-by numbers f (book_of aiou siou w.count) (following w.count 0) w.says some-row next others e

-- an unknown SIOU every form can say
unknown : (f : ℕ) → (has_siou f || eqb 0 0) ≡ true
unknown f = go (has_siou f)
  where
    go : (b : Bool) → (b || true) ≡ true
    go true = refl
    go false = refl

-- so the numbers before the form number, before AIOU + 1, before what is behind that, and before the count begin those of a sound book
module _ (f : ℕ) (i : is_form f ≡ true) where
  pub at-aiou : Begins (f ∷ [])
  unfolding numbers_in
  at-aiou =
      let w : Somewhere f 0 0 = some f 0 0 i (omega arith) (siou-unknown 0) (unknown f) in
      some-begins f 0 0 w (f ∷ []) 0 (cond (has_siou f) (0 ∷ w.count ∷ following w.count 0) (w.count ∷ following w.count 0)) refl

  module _ (aiou : ℕ) (h : aiou ≤ 16) where
    pub at-siou : Begins (f ∷ aiou ∷ [])
    unfolding numbers_in
    at-siou =
        let w : Somewhere f aiou 0 = some f aiou 0 i h (siou-unknown aiou) (unknown f) in
        some-begins f aiou 0 w (f ∷ aiou ∷ []) (cond (has_siou f) 0 w.count) (cond (has_siou f) (w.count ∷ following w.count 0) (following w.count 0))
        (ap (λ l. f ∷ aiou ∷ l) (split (has_siou f) 0 w.count (w.count ∷ following w.count 0) (following w.count 0)))
      where
        split : (b : Bool) (x y : ℕ) (l m : List ℕ) → cond b x y ∷ cond b l m ≡ cond b (x ∷ l) (y ∷ m)
        split true x y l m = refl
        split false x y l m = refl

    pub at_count : (siou : ℕ) → siou_sound aiou siou ≡ true → (has_siou f || eqb siou 0) ≡ true → Begins (head_of f aiou siou)
    at_count siou g k =
        let w : Somewhere f aiou siou = some f aiou siou i h g k in
        some-begins f aiou siou w (head_of f aiou siou) w.count (following w.count 0) (numbers-head f (book_of aiou siou w.count) (following w.count 0))

pub at-form : Begins []
unfolding numbers_in
at-form =
    let w : Somewhere newest_form 0 0 = some newest_form 0 0 refl (omega arith) (siou-unknown 0) (unknown newest_form) in
    some-begins newest_form 0 0 w [] newest_form (0 ∷ 0 ∷ w.count ∷ following w.count 0) refl

-- what begins, can follow
pub can : (numbers : List ℕ) → Begins numbers → CanFollow numbers
can numbers b = record { of = b.of; others = b.next ∷ b.others; goes_on = b.goes_on }

-- ---- bytes that are a kept book, and bytes that go on after it

abbrev pub says_of : (b : SoundBook) → Says b.form b.book
says_of b = record { is-form = b.is-form; in-form = b.in-form }

abbrev pub areas_of : SoundBook → List ℕ
areas_of b = areas_in b.book.count b.bytes

kept_read : (b : SoundBook) (rest : List ℕ) → behind_head (read_head (kept_book b ++ rest)) ≡ whole b.book (said (areas_of b) rest)
kept_read b rest = past-book b.form b.book (says_of b) (areas_of b) rest (sound-row b.book b.bytes b.is-sound)

pub book-reads : (s : List ℕ) (b : IsBook s) → behind_head (read_head s) ≡ kept b.of.book (areas_of b.of)
book-reads s b = ap (λ s. behind_head (read_head s)) (b.is ∙ sym (append-nil (kept_book b.of))) ∙ kept_read b.of []

pub over-leftover : (s : List ℕ) → GoesOn s → behind_head (read_head s) ≡ not-kept Leftover
over-leftover s g = ap (λ s. behind_head (read_head s)) g.is ∙ kept_read g.of (g.next ∷ g.others)
