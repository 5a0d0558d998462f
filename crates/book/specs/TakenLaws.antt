-- Laws: what `take` makes of a payload with a sound book, and the areas that it leaves. Proved; assumes nothing.
use Rattle.std.specs.Prelude.{◌≡◌, refl, Bool, cond, List, [], ◌++◌, ℕ, ◌+◌, ◌*◌, ◌^◌, ◌≤◌, ◌<◌, leb, eqb, length, drop, Ok, Err}
use Rattle.std.proofs.Common.{ap, ap₂, sym, ◌∙◌, subst, arith, length-append, length-drop, le-ltb, le-leb, ne_eqb}
use Rattle.std.proofs.Math.Bool.{true, false}
use Rattle.answer.specs.declared.Fault as answer
use Rattle.bits.specs.Bits.{field}
use Rattle.bits.specs.Laws.{field_lt}
use Rattle.layout.specs.Layout as layout
use Rattle.gad.specs.Gad.{Gad}
use Rattle.message.specs.Messages.{Message, gad_message}
use Rattle.sheet.specs.Sheet.{judging}
use Rattle.sizes.specs.Sizes.{most_areas, book_bytes}
use Rattle.book.specs.Book.{book_of, areas_in, bytes_of_all, siou_sound, head_sound, sound}
use Rattle.book.specs.Laws.{Ascending, Areas, length-areas, head-parts, sound-head, sound-room, sound-areas, sound-ascending, sound-each, length-bytes, sound-bytes, siou-some}
use Rattle.book.specs.Take.{reading, areas_of, Outcome, taken, refused, take_all, is_under, before, outcome, answer_of, left_by, taken_of, bytes_after}
use Rattle.book.specs.Payload.{block_at, blocks_from, AtBits, gad-only, gad-at-bits}
use Rattle.book.specs.TakeLaws.{TookAll, took-all, Good, InRange, stays-good, some-area}
use Rattle.book.specs.declared.Book.{Book}

module _ (book : Book) (s payload : List ℕ) (w : sound book s ≡ true) where
  outcome-sound : outcome book s payload ≡ reading (judging 2 0 payload) (λ m. take_all (areas_of m.blocks) (before book s m.aiou m.siou)) (λ why. refused why)
  unfolding outcome
  outcome-sound = rw (le-ltb (length s) book_bytes (sound-room book s w), w)

  -- the payload's refusal,
  module _ (why : answer.Fault) (e : judging 2 0 payload ≡ layout.refused why) where
    pub outcome-refused : outcome book s payload ≡ refused why
    outcome-refused = outcome-sound ∙ ap (λ o. reading o (λ m. take_all (areas_of m.blocks) (before book s m.aiou m.siou)) (λ why. refused why)) e

    pub answer-refused : taken_of book s payload ≡ Err why
    answer-refused = ap (λ o. answer_of o (reading (judging 2 0 payload) (λ m. m.aiou) (λ why. 0)) (reading (judging 2 0 payload) (λ m. m.siou) (λ why. 0))) outcome-refused

  -- or its blocks into the book
  module _ (m : Gad) (codes : List ℕ) (used : ℕ) (e : judging 2 0 payload ≡ layout.accepted (gad_message m) codes used) where
    pub outcome-read : outcome book s payload ≡ take_all (areas_of m.blocks) (before book s m.aiou m.siou)
    outcome-read = outcome-sound ∙ ap (λ o. reading o (λ m. take_all (areas_of m.blocks) (before book s m.aiou m.siou)) (λ why. refused why)) e

    pub answer-read : taken_of book s payload ≡ answer_of (take_all (areas_of m.blocks) (before book s m.aiou m.siou)) m.aiou m.siou
    answer-read = ap₂ (λ o r. answer_of o (reading r (λ m. m.aiou) (λ why. 0)) (reading r (λ m. m.siou) (λ why. 0))) outcome-read e

-- ---- the areas before and afterwards

module _ (book : Book) (s : List ℕ) (w : sound book s ≡ true) where
  -- the areas that a GAD adds to
  good-before : (aiou siou : ℕ) → Good (before book s aiou siou)
  unfolding before
  good-before aiou siou = go (is_under book (aiou + 1) (siou + 1))
    where
      go : (b : Bool) → Good (cond b (areas_in book.count s) [])
      go true =
          record {
            ascending = sound-ascending book.count 0 s (sound-areas book s w);
            few = omega (arith, length-areas book.count s, (head-parts book (sound-head book s w)).1);
            areas = sound-each book.count 0 s (sound-areas book s w);
          }
      go false = record { ascending = Ascending.none; few = omega arith; areas = Areas.none }

-- good areas, with an AIOU of 15 and a SIOU of 511 at most, make a sound book
pub made-sound : (n s : List ℕ) (aiou siou : ℕ) → book_bytes ≤ length s → 1 ≤ length n → aiou < 2 ^ 4 → siou < 2 ^ 9 → Good n
    → sound (book_of (aiou + 1) (siou + 1) (length n)) (bytes_of_all n ++ drop (6 * length n) s) ≡ true
unfolding sound head_sound
made-sound n s aiou siou room one small low g =
    let long : length (bytes_of_all n ++ drop (6 * length n) s) ≡ length s
    = length-append (bytes_of_all n) (drop (6 * length n) s) ∙ omega (arith, length-bytes n, length-drop (6 * length n) s, g.few) in
    let z₀ : leb book_bytes (length (bytes_of_all n ++ drop (6 * length n) s)) ≡ true = le-leb book_bytes (length (bytes_of_all n ++ drop (6 * length n) s)) (omega arith) in
    let z₁ : eqb (aiou + 1) 0 ≡ false = ne_eqb (aiou + 1) 0 (λ q. omega arith) in
    let z₂ : eqb (length n) 0 ≡ false = ne_eqb (length n) 0 (λ q. omega arith) in
    let z₃ : leb (aiou + 1) 16 ≡ true = le-leb (aiou + 1) 16 (omega arith) in
    let z₄ : leb (length n) most_areas ≡ true = le-leb (length n) most_areas g.few in
    let z₅ : siou_sound (aiou + 1) (siou + 1) ≡ true = subst (λ k. siou_sound k (siou + 1) ≡ true) {y = aiou + 1} (omega arith) (siou-some aiou (siou + 1) (omega arith)) in
    rw (z₀, z₁, z₂, z₃, z₄, z₅) (sound-bytes n (drop (6 * length n) s) 0 g.ascending g.areas)

-- a payload that is taken says a GAD
pub record Says (payload : List ℕ) : Type 0 where
  pub gad : Gad
  pub codes : List ℕ
  pub used : ℕ
  pub reads : judging 2 0 payload ≡ layout.accepted (gad_message gad) codes used

pub says-read : (payload : List ℕ) (v : Message) (codes : List ℕ) (used : ℕ) → judging 2 0 payload ≡ layout.accepted v codes used → Says payload
says-read payload v codes used e =
    let r = gad-only payload v codes used e in
    record { gad = r.0; codes = codes; used = used; reads = e ∙ ap (λ v. layout.accepted v codes used) r.1 }

pub says : (book : Book) (s payload : List ℕ) (after : Book) → sound book s ≡ true → taken_of book s payload ≡ Ok after → Says payload
says book s payload after w e = go (judging 2 0 payload) refl
  where
    go : (o : layout.Outcome Message) → judging 2 0 payload ≡ o → Says payload
    go (layout.accepted v codes used) q = says-read payload v codes used q
    go (layout.refused why) q =
        let z : Err why ≡ Ok after = sym (answer-refused book s payload w why q) ∙ e in
        let y : ◌≡◌ {A = ℕ} 0 1 = cc in
        absurd (omega arith)

module _ (book : Book) (s payload : List ℕ) (after : Book) (w : sound book s ≡ true) (e : taken_of book s payload ≡ Ok after)
    (m : Gad) (codes : List ℕ) (used : ℕ) (r : judging 2 0 payload ≡ layout.accepted (gad_message m) codes used) where
  -- the areas held afterwards
  pub record Left : Type 0 where
    pub areas : List ℕ
    pub is : take_all (areas_of m.blocks) (before book s m.aiou m.siou) ≡ taken areas
    pub head : after ≡ book_of (m.aiou + 1) (m.siou + 1) (length areas)

  pub left : Left
  left = go (take_all (areas_of m.blocks) (before book s m.aiou m.siou)) refl (sym (answer-read book s payload w m codes used r) ∙ e)
    where
      go : (o : Outcome) → take_all (areas_of m.blocks) (before book s m.aiou m.siou) ≡ o → answer_of o m.aiou m.siou ≡ Ok after → Left
      go (taken l) q e = record { areas = l; is = q; head = cc }
      go (refused r) q e = let z : ◌≡◌ {A = ℕ} 0 1 = cc in absurd (omega arith)

  pub all-taken : TookAll (areas_of m.blocks) (before book s m.aiou m.siou) left.areas
  all-taken = took-all (areas_of m.blocks) (before book s m.aiou m.siou) left.areas left.is

  stands : AtBits payload m
  stands = gad-at-bits payload m codes used r

  -- a GAD has a block
  one-after : 1 ≤ length left.areas
  unfolding blocks_from
  one-after = some-area (block_at payload 0) (blocks_from (field payload 14 5) 1 payload) (before book s m.aiou m.siou) left.areas (subst (λ l. TookAll l (before book s m.aiou m.siou) left.areas) stands.areas all-taken)

  pub good-after : Good left.areas
  good-after = stays-good (areas_of m.blocks) (before book s m.aiou m.siou) left.areas (subst (λ l. InRange l) (sym stands.areas) stands.in-range) all-taken (good-before book s w m.aiou m.siou)

  pub bytes-are : bytes_after book s payload ≡ bytes_of_all left.areas ++ drop (6 * length left.areas) s
  bytes-are = ap (λ o. left_by o s) (outcome-read book s payload w m codes used r ∙ left.is)

  pub sound-after : sound after (bytes_after book s payload) ≡ true
  sound-after =
      ap₂ sound left.head bytes-are
      ∙ made-sound left.areas s m.aiou m.siou (sound-room book s w) one-after (subst (λ a. a < 2 ^ 4) (sym stands.aiou) (field_lt payload 9 4))
      (subst (λ u. u < 2 ^ 9) (sym stands.siou) (field_lt payload 0 9)) good-after
