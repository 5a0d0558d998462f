-- Theorems: the book after a GAD, in the words of the calls `take` and `find`. It is sound (`stays-sound`), or as it was (`refusal-keeps`, `repeat-keeps`); under each ID there is what
-- there was, else the GAD's block, else nothing (`in-book`, and its three parts `block-found`, `area-stays`, `nothing-else`). It has the GAD's AIOU and SIOU (`has-update`); a GAD of the
-- book's own adds to it (`same-adds`), one of another AIOU or SIOU is judged from an empty book, and only its blocks are found then (`another-begins`, `another-alone`), as over a book
-- of unknown SIOU every one is (`unknown-begins`). Proved; assumes nothing.
use Rattle.std.specs.Prelude.{◌≡◌, ◌⊎◌, Bool, true, ◌&&◌, List, [], ◌∷◌, ◌++◌, ℕ, ◌+◌, ◌*◌, ◌<◌, get_or, drop, Ok, Err, Some, None}
use Rattle.std.proofs.Math.Path.{refl, ap}
use Rattle.std.proofs.Common.{ap₂, sym, ◌∙◌, inl, inr, arith, drop_at}
use Rattle.std.proofs.Math.Bool.{false, cond}
use Rattle.std.proofs.Math.Dec.{eqb}
use Rattle.std.proofs.Math.ListN.{length}
use Rattle.answer.specs.declared.Fault as answer
use Rattle.bits.specs.Bits.{Bytes}
use Rattle.layout.specs.Layout.{accepted}
use Rattle.gad.specs.Gad.{Gad}
use Rattle.message.specs.Messages.{gad_message}
use Rattle.sheet.specs.Sheet.{judging}
use Rattle.area.specs.Area.{sf031, bytes_of}
use Rattle.area.specs.declared.AreaId.{AreaId}
use Rattle.book.specs.Book.{book_of, areas_in, bytes_of_all, sound, found}
use Rattle.book.specs.Laws.{areas-bytes, length-bytes}
use Rattle.book.specs.Take.{reading, areas_of, lookup, Outcome, taken, refused, take_all, is_under, before, outcome, answer_of, left_by, taken_of, bytes_after}
use Rattle.book.specs.TakeLaws.{is-under, other-aiou, other-siou, or_else, TookAll, lookup-after, holds-each, retake}
use Rattle.book.specs.FindLaws.{bytes_of_found, found_in, found-is}
use Rattle.book.specs.TakenLaws.{outcome-read, answer-read, Says, says, Left, left, all-taken, good-after, bytes-are, sound-after}
use Rattle.book.specs.declared.Book.{Book}
use Rattle.book.specs.Results.{Found}

-- A sound book stays sound, whatever the payload is.
pub stays-sound : (book : Book) (s payload : List ℕ) (after : Book) → sound book s ≡ true → taken_of book s payload ≡ Ok after → sound after (bytes_after book s payload) ≡ true
stays-sound book s payload after w e =
    let m : Says payload = says book s payload after w e in
    sound-after book s payload after w e m.gad m.codes m.used m.reads

-- "It is taken whole or refused": a refusal changes nothing.
pub refusal-keeps : (book : Book) (s payload : List ℕ) (r : answer.Fault) → taken_of book s payload ≡ Err r → bytes_after book s payload ≡ s
refusal-keeps book s payload r = go (outcome book s payload)
  where
    go : (o : Outcome) → answer_of o (reading (judging 2 0 payload) (λ m. m.aiou) (λ why. 0)) (reading (judging 2 0 payload) (λ m. m.siou) (λ why. 0)) ≡ Err r → left_by o s ≡ s
    go (taken l) e = let z : ◌≡◌ {A = ℕ} 0 1 = cc in absurd (omega arith)
    go (refused q) e = refl

-- "An identical repeat changes nothing."
module _ (book : Book) (s payload : List ℕ) (after : Book) (w : sound book s ≡ true) (e : taken_of book s payload ≡ Ok after) where
  module _ (m : Gad) (codes : List ℕ) (used : ℕ) (r : judging 2 0 payload ≡ accepted (gad_message m) codes used) where
    abbrev kept : List ℕ
    kept = (left book s payload after w e m codes used r).areas

    again : take_all (areas_of m.blocks) (before after (bytes_after book s payload) m.aiou m.siou) ≡ taken kept
    unfolding before
    again =
        let head : after ≡ book_of (m.aiou + 1) (m.siou + 1) (length kept) = (left book s payload after w e m codes used r).head in
        let all : TookAll (areas_of m.blocks) (before book s m.aiou m.siou) kept = all-taken book s payload after w e m codes used r in
        ap (take_all (areas_of m.blocks))
        (ap (λ (b : Book). cond (is_under b (m.aiou + 1) (m.siou + 1)) (areas_in b.count (bytes_after book s payload)) []) head
        ∙ ap (λ t. cond t (areas_in (length kept) (bytes_after book s payload)) []) (is-under (book_of (m.aiou + 1) (m.siou + 1) (length kept)) (m.aiou + 1) (m.siou + 1) refl refl)
        ∙ ap (areas_in (length kept)) (bytes-are book s payload after w e m codes used r)
        ∙ areas-bytes kept (drop (6 * length kept) s) 0 (good-after book s payload after w e m codes used r).ascending)
        ∙ retake (areas_of m.blocks) (before book s m.aiou m.siou) kept all kept (λ i. holds-each i (areas_of m.blocks) (before book s m.aiou m.siou) kept all)

    repeat_read : (taken_of after (bytes_after book s payload) payload ≡ Ok after) × (bytes_after after (bytes_after book s payload) payload ≡ bytes_after book s payload)
    repeat_read =
        let s₁ : List ℕ = bytes_after book s payload in
        let w₁ : sound after s₁ ≡ true = sound-after book s payload after w e m codes used r in
        let bytes : s₁ ≡ bytes_of_all kept ++ drop (6 * length kept) s = bytes-are book s payload after w e m codes used r in
        let rest : drop (6 * length kept) s₁ ≡ drop (6 * length kept) s
        = ap (drop (6 * length kept)) bytes ∙ drop_at (bytes_of_all kept) (drop (6 * length kept) s) (6 * length kept) (length-bytes kept) in (
          answer-read after s₁ payload w₁ m codes used r ∙ ap (λ o. answer_of o m.aiou m.siou) again ∙ ap Ok (sym (left book s payload after w e m codes used r).head),
          ap (λ o. left_by o s₁) (outcome-read after s₁ payload w₁ m codes used r ∙ again) ∙ ap (λ t. bytes_of_all kept ++ t) rest ∙ sym bytes,
        )

  pub repeat-keeps : (taken_of after (bytes_after book s payload) payload ≡ Ok after) × (bytes_after after (bytes_after book s payload) payload ≡ bytes_after book s payload)
  repeat-keeps = let m : Says payload = says book s payload after w e in repeat_read m.gad m.codes m.used m.reads

-- ---- what is found afterwards

-- what the book had under an ID, if its AIOU and its SIOU are the GAD's: "A GAD with another AIOU begins a new book; with the same one it adds." "A GAD with another SIOU begins a new book, as another AIOU does."
abbrev pub found_before : Book → List ℕ → (aiou siou : ℕ) → AreaId → List ℕ
found_before book s aiou siou id = cond (eqb book.aiou_plus_one (aiou + 1) && eqb book.siou_plus_one (siou + 1)) (found book s id) []

-- the first of two parts that has bytes
abbrev pub first_of : List ℕ → List ℕ → List ℕ
first_of [] y = y
first_of (x ∷ xs) y = x ∷ xs

bytes-or : (f g : Found) → bytes_of_found (or_else f g) ≡ first_of (bytes_of_found f) (bytes_of_found g)
bytes-or (Some a) g = refl
bytes-or None g = refl

first-stays : (x y : List ℕ) → (x ≡ [] → ⊥) → first_of x y ≡ x
first-stays [] y h = absurd (h refl)
first-stays (x ∷ xs) y h = refl

before-found : (book : Book) (s : List ℕ) → sound book s ≡ true → Bytes s → (aiou siou : ℕ) (id : AreaId) → bytes_of_found (lookup id.0 (before book s aiou siou)) ≡ found_before book s aiou siou id
unfolding before is_under lookup
before-found book s w b aiou siou id = go (eqb book.aiou_plus_one (aiou + 1) && eqb book.siou_plus_one (siou + 1))
  where
    go : (t : Bool) → bytes_of_found (lookup id.0 (cond t (areas_in book.count s) [])) ≡ cond t (found book s id) []
    go true = sym (found-is book s w b id)
    go false = refl

-- ---- of one AIOU and SIOU

-- A GAD m that a sound book is given:
module _ (book : Book) (s payload : List ℕ) (w : sound book s ≡ true) (m : Gad) (codes : List ℕ) (used : ℕ) (r : judging 2 0 payload ≡ accepted (gad_message m) codes used) where
  -- of the book's AIOU and SIOU, it is judged against the areas that are held, and adds to them;
  pub same-adds : book.aiou_plus_one ≡ m.aiou + 1 → book.siou_plus_one ≡ m.siou + 1 → outcome book s payload ≡ take_all (areas_of m.blocks) (areas_in book.count s)
  unfolding before
  same-adds q u =
      outcome-read book s payload w m codes used r
      ∙ ap (λ t. take_all (areas_of m.blocks) (cond t (areas_in book.count s) [])) (is-under book (m.aiou + 1) (m.siou + 1) q u)

  -- of another AIOU or another SIOU, it is judged from an empty book: no area of the old one can be in conflict with it, nor fill the new one.
  pub another-begins : (book.aiou_plus_one ≡ m.aiou + 1 → ⊥) ⊎ (book.siou_plus_one ≡ m.siou + 1 → ⊥) → outcome book s payload ≡ take_all (areas_of m.blocks) []
  unfolding before
  another-begins h = outcome-read book s payload w m codes used r ∙ ap (λ t. take_all (areas_of m.blocks) (cond t (areas_in book.count s) [])) (go h)
    where
      go : (book.aiou_plus_one ≡ m.aiou + 1 → ⊥) ⊎ (book.siou_plus_one ≡ m.siou + 1 → ⊥) → is_under book (m.aiou + 1) (m.siou + 1) ≡ false
      go (inl n) = other-aiou book (m.aiou + 1) (m.siou + 1) n
      go (inr n) = other-siou book (m.aiou + 1) (m.siou + 1) n

  -- "its SIOU unknown, and matches nothing until a GAD comes": over a book of unknown SIOU every GAD is such a one.
  pub unknown-begins : book.siou_plus_one ≡ 0 → outcome book s payload ≡ take_all (areas_of m.blocks) []
  unknown-begins e = another-begins (inr (λ q. omega arith))

-- After a GAD m was taken into a sound book (s are bytes, as those of every slice of u8 are):
module _ (book : Book) (s payload : List ℕ) (after : Book) (w : sound book s ≡ true) (b : Bytes s) (e : taken_of book s payload ≡ Ok after)
    (m : Gad) (codes : List ℕ) (used : ℕ) (r : judging 2 0 payload ≡ accepted (gad_message m) codes used) (id : AreaId) where
  abbrev held : Left book s payload after w e m codes used r
  held = left book s payload after w e m codes used r

  looked-up : found after (bytes_after book s payload) id ≡ bytes_of_found (lookup id.0 held.areas)
  looked-up =
      found_in after (bytes_after book s payload) (sound-after book s payload after w e m codes used r) id held.areas (drop (6 * length held.areas) s)
      (bytes-are book s payload after w e m codes used r) (ap (λ (x : Book). x.count) held.head)

  -- under each ID there is what there was before, else the GAD's block, else nothing;
  pub in-book : found after (bytes_after book s payload) id ≡ first_of (found_before book s m.aiou m.siou id) (bytes_of_found (lookup id.0 (areas_of m.blocks)))
  in-book =
      looked-up
      ∙ ap bytes_of_found (lookup-after id.0 (areas_of m.blocks) (before book s m.aiou m.siou) held.areas (all-taken book s payload after w e m codes used r))
      ∙ bytes-or (lookup id.0 (before book s m.aiou m.siou)) (lookup id.0 (areas_of m.blocks))
      ∙ ap (λ x. first_of x (bytes_of_found (lookup id.0 (areas_of m.blocks)))) (before-found book s w b m.aiou m.siou id)

  -- so each of its blocks is found under its ID, with its own six bytes;
  pub block-found : (i : ℕ) → i < length (areas_of m.blocks) → id.0 ≡ sf031 (get_or (areas_of m.blocks) i 0)
      → found after (bytes_after book s payload) id ≡ bytes_of (get_or (areas_of m.blocks) i 0)
  block-found i h q =
      looked-up
      ∙ ap bytes_of_found (ap (λ k. lookup k held.areas) q ∙ holds-each i (areas_of m.blocks) (before book s m.aiou m.siou) held.areas (all-taken book s payload after w e m codes used r) h)

  -- each area of the same AIOU and the same SIOU that was found before is still found;
  pub area-stays : book.aiou_plus_one ≡ m.aiou + 1 → book.siou_plus_one ≡ m.siou + 1 → (found book s id ≡ [] → ⊥) → found after (bytes_after book s payload) id ≡ found book s id
  unfolding is_under
  area-stays q u h =
      let z : found_before book s m.aiou m.siou id ≡ found book s id = ap (λ t. cond t (found book s id) []) (is-under book (m.aiou + 1) (m.siou + 1) q u) in
      in-book ∙ ap (λ x. first_of x (bytes_of_found (lookup id.0 (areas_of m.blocks)))) z ∙ first-stays (found book s id) _ h

  -- and nothing else is.
  pub nothing-else : found_before book s m.aiou m.siou id ≡ [] → lookup id.0 (areas_of m.blocks) ≡ None → found after (bytes_after book s payload) id ≡ []
  nothing-else p q = in-book ∙ ap₂ (λ x y. first_of x (bytes_of_found y)) p q

  -- After a GAD of another AIOU or SIOU only its own blocks are found.
  pub another-alone : (book.aiou_plus_one ≡ m.aiou + 1 → ⊥) ⊎ (book.siou_plus_one ≡ m.siou + 1 → ⊥)
      → found after (bytes_after book s payload) id ≡ bytes_of_found (lookup id.0 (areas_of m.blocks))
  unfolding is_under
  another-alone h = in-book ∙ ap (λ t. first_of (cond t (found book s id) []) (bytes_of_found (lookup id.0 (areas_of m.blocks)))) (go h)
    where
      go : (book.aiou_plus_one ≡ m.aiou + 1 → ⊥) ⊎ (book.siou_plus_one ≡ m.siou + 1 → ⊥)
          → (eqb book.aiou_plus_one (m.aiou + 1) && eqb book.siou_plus_one (m.siou + 1)) ≡ false
      go (inl n) = other-aiou book (m.aiou + 1) (m.siou + 1) n
      go (inr n) = other-siou book (m.aiou + 1) (m.siou + 1) n

  -- Every GAD that is taken gives the book its AIOU and its SIOU.
  pub has-update : (after.aiou_plus_one ≡ m.aiou + 1) × (after.siou_plus_one ≡ m.siou + 1)
  has-update = (ap (λ (x : Book). x.aiou_plus_one) held.head, ap (λ (x : Book). x.siou_plus_one) held.head)
