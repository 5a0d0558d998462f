-- One lemma for each answer of `take`, in plain variables, premises worded as the code makes them. Assumes nothing.
use Rattle.std.specs.Prelude.{Err}
use mathlib.Core.Path.{◌≡◌, refl, ap, ap₂, sym, ◌∙◌}
use Rattle.std.specs.Result.{is_ok}
use mathlib.Core.Bool.{Bool, true, false, not, false≢true}
use mathlib.Core.List.{List}
use Prim.Native.Nat.{ℕ, ◌*◌, ◌≤◌, ◌<◌}
use native.Mathlib.Omega.{arith}
use lib.ListN.{length}
use borrow.Author.Tests.{lt-ltb, le-ltb, not-true, not-false}
use Rattle.answer.specs.declared.Fault as answer
use Rattle.answer.specs.Place.{nowhere}
use Rattle.answer.specs.declared.Refusal.TheVariants as refusal
use Rattle.sizes.specs.Sizes.{book_bytes}
use Rattle.layout.specs.Layout as layout
use Rattle.message.specs.Messages.{Message}
use Rattle.sheet.specs.Sheet.{judging, read_answer_by, judged}
use Rattle.sheet.specs.Results.{ReadAnswer}
use Rattle.book.specs.Book.{sound}
use Rattle.book.specs.Take.{areas_of, take_all, before, outcome, answer_of, left_by, taken_of, bytes_after}
use Rattle.book.specs.Payload.{siou_of, aiou_of, block_count, block_start, blocks_of, take_bits, AtBits, gad-at-bits}
use Rattle.book.specs.TakenLaws.{outcome-refused, answer-refused, outcome-read, answer-read, Says, says-read}
use Rattle.book.specs.declared.Book.{Book}
use Rattle.book.specs.Results.{Taken}

module _ (book : Book) (s p : List ℕ) where
  -- no room, or no sound book
  pub take-room : length s < book_bytes → (why : answer.Fault) → why ≡ nowhere refusal.Room → Err why ≡ taken_of book s p
  unfolding outcome
  take-room h why w = rw (w, lt-ltb (length s) book_bytes h)

  pub left-room : length s < book_bytes → s ≡ bytes_after book s p
  unfolding outcome
  left-room h = rw (lt-ltb (length s) book_bytes h)

  module _ (h : book_bytes ≤ length s) (b : Bool) (eb : b ≡ sound book s) where
    pub take-state : not b ≡ true → (why : answer.Fault) → why ≡ nowhere refusal.State → Err why ≡ taken_of book s p
    unfolding outcome
    take-state k why w = let y : sound book s ≡ false = sym eb ∙ not-true b k in rw (w, le-ltb (length s) book_bytes h, y)

    pub left-state : not b ≡ true → s ≡ bytes_after book s p
    unfolding outcome
    left-state k = let y : sound book s ≡ false = sym eb ∙ not-true b k in rw (le-ltb (length s) book_bytes h, y)

    module _ (k : not b ≡ false) where
      pub take-sound : sound book s ≡ true
      take-sound = sym eb ∙ not-false b k

      module _ (v : ReadAnswer) (ev : v ≡ judged 2 0 p) where
        module _ (r : answer.Fault) (q : v ≡ Err r) where
          is-refused : judging 2 0 p ≡ layout.refused r
          unfolding judged
          is-refused = go (judging 2 0 p) (sym q ∙ ev)
            where
              go : (o : layout.Outcome Message) → Err r ≡ read_answer_by o → o ≡ layout.refused r
              go (layout.accepted m codes used) e = let z : ◌≡◌ {A = ℕ} 0 1 = cc in absurd (omega arith)
              go (layout.refused why) e = cc

          pub take-fault : Err r ≡ taken_of book s p
          take-fault = sym (answer-refused book s p take-sound r is-refused)

          pub left-fault : s ≡ bytes_after book s p
          left-fault = sym (ap (λ o. left_by o s) (outcome-refused book s p take-sound r is-refused))

        module _ (q : is_ok v ≡ true) where
          read : Says p
          unfolding judged
          read = go (judging 2 0 p) refl (ap is_ok (sym ev) ∙ q)
            where
              go : (o : layout.Outcome Message) → judging 2 0 p ≡ o → is_ok (read_answer_by o) ≡ true → Says p
              go (layout.accepted m codes used) e z = says-read p m codes used e
              go (layout.refused why) e z = absurd (false≢true z)

          stands : AtBits p read.gad
          stands = gad-at-bits p read.gad read.codes read.used read.reads

          pub take-there : block_start (block_count p) ≤ 8 * length p
          take-there = stands.there

          -- what is taken by the layout is what is taken by the bits
          by_bits : take_all (areas_of read.gad.blocks) (before book s read.gad.aiou read.gad.siou) ≡ take_bits book s p
          by_bits = ap₂ (λ l a. take_all l (before book s a read.gad.siou)) stands.areas stands.aiou ∙ ap (λ u. take_all (blocks_of p) (before book s (aiou_of p) u)) stands.siou

          pub take-blocks : (t : Taken) → t ≡ answer_of (take_bits book s p) (aiou_of p) (siou_of p) → t ≡ taken_of book s p
          take-blocks t e = e ∙ sym (answer-read book s p take-sound read.gad read.codes read.used read.reads ∙ ap₂ (λ o a. answer_of o a read.gad.siou) by_bits stands.aiou ∙ ap (answer_of (take_bits book s p) (aiou_of p)) stands.siou)

          pub left-blocks : (z : List ℕ) → z ≡ left_by (take_bits book s p) s → z ≡ bytes_after book s p
          left-blocks z e = e ∙ sym (ap (λ o. left_by o s) (outcome-read book s p take-sound read.gad read.codes read.used read.reads ∙ by_bits))
