-- Theorems (document 02, request 2): "Every call above passes the place on as it got it." A book that refuses a payload at a place refuses it as the reader does. Proved; assumes nothing.
use Rattle.std.specs.Prelude.{◌≡◌, Bool, true, false, cond, not, List, [], ◌∷◌, ℕ, ltb, eqb, length, Err, Some, None}
use Rattle.std.proofs.Math.Path.{refl, ap}
use Rattle.std.proofs.Common.{sym, subst, ◌∙◌, arith}
use Rattle.sizes.specs.Sizes.{most_areas, book_bytes}
use Rattle.answer.specs.Stop.{stop}
use Rattle.answer.specs.Place.{nowhere}
use Rattle.answer.specs.declared.Fault as answer
use Rattle.answer.specs.declared.Refusal.TheVariants as refusal
use Rattle.layout.specs.Layout as layout
use Rattle.gad.specs.Gad.{Gad}
use Rattle.message.specs.Messages.{Message, gad_message}
use Rattle.sheet.specs.Sheet.{judging, judged, read_answer_by}
use Rattle.area.specs.Area.{sf031, area_off}
use Rattle.book.specs.Book.{sound}
use Rattle.book.specs.Take.{reading, areas_of, lookup, insert, Outcome, taken, refused, placed, take_block, and_then, take_all, before, outcome, answer_of, taken_of}
use Rattle.book.specs.Payload.{gad-only}
use Rattle.book.specs.declared.Book.{Book}
use Rattle.book.specs.Results.{Found}
use Rattle.book.specs.Results.{Taken}

-- ---- its own refusals have no place

abbrev pub Placeless : Outcome → Type 0
Placeless (taken l) = Unit {0}
Placeless (refused why) = why.place ≡ None

either : (b : Bool) (x y : Outcome) → Placeless x → Placeless y → Placeless (cond b x y)
either true x y p q = p
either false x y p q = q

first : (b : Bool) (x y : Outcome) → Placeless x → Placeless y → Placeless (stop b x y)
first true x y p q = p
first false x y p q = q

block-placeless : (a : ℕ) (l : List ℕ) → Placeless (take_block a l)
unfolding take_block
block-placeless a l = first (area_off a) (refused (nowhere refusal.AreaOff)) (placed a l (lookup (sf031 a) l)) refl (go (lookup (sf031 a) l))
  where
    go : (f : Found) → Placeless (placed a l f)
    go (Some b) = either (eqb a b) (taken l) (refused (nowhere refusal.Conflict)) tt refl
    go None = either (ltb (length l) most_areas) (taken (insert a l)) (refused (nowhere refusal.BookFull)) tt refl

then-placeless : (o : Outcome) (next : List ℕ → Outcome) → Placeless o → ((l : List ℕ) → Placeless (next l)) → Placeless (and_then o next)
then-placeless (taken l) next p h = h l
then-placeless (refused why) next p h = p

all-placeless : (blocks l : List ℕ) → Placeless (take_all blocks l)
unfolding take_all
all-placeless [] l = tt
all-placeless (a ∷ blocks) l = then-placeless (take_block a l) (λ l. take_all blocks l) (block-placeless a l) (λ l. all-placeless blocks l)

-- of a payload that reads
pub outcome-placeless : (book : Book) (s payload : List ℕ) (m : Gad) (codes : List ℕ) (used : ℕ) → judging 2 0 payload ≡ layout.accepted (gad_message m) codes used
    → Placeless (outcome book s payload)
unfolding outcome
outcome-placeless book s payload m codes used e =
    first (ltb (length s) book_bytes) (refused (nowhere refusal.Room)) _ refl (
    first (not (sound book s)) (refused (nowhere refusal.State)) _ refl (
    subst (λ o. Placeless (reading o (λ m. take_all (areas_of m.blocks) (before book s m.aiou m.siou)) (λ why. refused why))) (sym e)
    (all-placeless (areas_of m.blocks) (before book s m.aiou m.siou))))

-- ---- so a place is the payload's

module _ (why : answer.Fault) (sf at : ℕ) (p : why.place ≡ Some (record { sf = sf; at = at })) where
  no_place : None ≡ why.place → ⊥
  no_place e = let z : None ≡ Some (record { sf = sf; at = at }) = e ∙ p in let y : ◌≡◌ {A = ℕ} 0 1 = cc in omega arith

  not-placeless : (o : Outcome) (aiou siou : ℕ) → Placeless o → answer_of o aiou siou ≡ Err why → ⊥
  not-placeless (taken l) aiou siou h e = let z : ◌≡◌ {A = ℕ} 0 1 = cc in omega arith
  not-placeless (refused w) aiou siou h e = let z : w ≡ why = cc in no_place (sym h ∙ ap (λ (x : answer.Fault). x.place) z)

  the-payload's : (a b : Bool) (w : answer.Fault) (aiou siou : ℕ)
      → answer_of (stop a (refused (nowhere refusal.Room)) (stop b (refused (nowhere refusal.State)) (refused w))) aiou siou ≡ Err why → w ≡ why
  the-payload's true b w aiou siou e = absurd (not-placeless (refused (nowhere refusal.Room)) aiou siou refl e)
  the-payload's false true w aiou siou e = absurd (not-placeless (refused (nowhere refusal.State)) aiou siou refl e)
  the-payload's false false w aiou siou e = cc

  pub passed_on : (book : Book) (s payload : List ℕ) → taken_of book s payload ≡ Err why → judged 2 0 payload ≡ Err why
  unfolding judged outcome
  passed_on book s payload e = go (judging 2 0 payload) refl e
    where
      go : (o : layout.Outcome Message) → judging 2 0 payload ≡ o → taken_of book s payload ≡ Err why → read_answer_by (judging 2 0 payload) ≡ Err why
      go (layout.accepted v codes used) k e =
          let m = gad-only payload v codes used k in
          absurd (not-placeless (outcome book s payload) _ _ (outcome-placeless book s payload m.0 codes used (k ∙ ap (λ x. layout.accepted x codes used) m.1)) e)
      go (layout.refused w) k e =
          ap read_answer_by k ∙ ap Err (the-payload's (ltb (length s) book_bytes) (not (sound book s)) w 0 0 (ap answered (sym k) ∙ e))
        where
          answered : layout.Outcome Message → Taken
          answered o =
              answer_of (stop (ltb (length s) book_bytes) (refused (nowhere refusal.Room)) (stop (not (sound book s)) (refused (nowhere refusal.State))
              (reading o (λ m. take_all (areas_of m.blocks) (before book s m.aiou m.siou)) (λ why. refused why)))) (reading o (λ m. m.aiou) (λ why. 0)) (reading o (λ m. m.siou) (λ why. 0))
