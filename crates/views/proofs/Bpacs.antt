-- The answers of bpacarea.rt: what the machine finds is the first block with the ID, and each answer of the code, worded as the code makes its tests.
use Rattle.std.specs.Prelude.{Ok, Err, Some, None}
use mathlib.Core.Path.{◌≡◌, refl, ap, sym, ◌∙◌}
use mathlib.Core.List.{List}
use Prim.Native.Nat.{ℕ, ◌≤◌, ◌<◌}
use borrow.Author.Tests.{lt-ltb, le-ltb}
use Rattle.answer.specs.declared.Fault.{Fault}
use Rattle.answer.specs.Place.{nowhere}
use Rattle.answer.specs.declared.Refusal.TheVariants as refusal
use Rattle.bpac.specs.Bpac as bpac
use Rattle.fields.specs.Fields.{sf}
use Rattle.layout.specs.declared.Field.{Field}
use Rattle.layout.specs.Layout.{done, pick}
use Rattle.layout.specs.Holds.{Holds}
use Rattle.layout.specs.Walks.{Walks}
use Rattle.message.specs.declared.State.{State}
use Rattle.message.specs.Machine.{field_of, step_of}
use Rattle.message.specs.Messages.{bpac_message, bpac_layout}
use Rattle.views.specs.Results.{BpacAnswer}
use Rattle.views.specs.Results.{Opened}
use Rattle.views.specs.declared.places.Place.{Place}
use Rattle.views.specs.Along.{headed, goes-finds, finds-first}
use Rattle.views.specs.AlongBpac.{bpac_seen, bpac_found, over-area, over-head}
use Rattle.views.specs.Bpacs.{bpac_areas, bpac_entries, bpac_area, first_bpac, if_bpac_id, bpac_answer_of}
use Rattle.views.specs.Places.{opened, found}
use Rattle.views.specs.Taken.{opened_as, opens}

bpac-finds : (id : ℕ) (sheet : List ℕ) (s : State) → Walks field_of step_of s bpac_layout → Holds bpac_layout sheet 0
    → bpac_found sheet (found 72 id sheet (record { state = s; at = 0 })) ≡ first_bpac id (bpac_areas sheet)
unfolding sf
bpac-finds id sheet s w h =
    let shown : (at : ℕ) (code : (sf before : ℕ) → ℕ) → BpacAnswer = λ at code. Ok (Some (bpac_seen at code)) in
    let said : bpac.Bpac → BpacAnswer = λ b. first_bpac id b.areas in
    over-head (goes-finds sheet 72 id (Ok None) shown said) (λ b. done (bpac_message b)) (λ b. done b) (λ n body e.
    finds-first sheet 72 id (Ok None) shown said bpac.area bpac.area (λ (b : bpac.Area). b.id) bpac_entries (λ at b. Ok (Some (bpac_area at b)))
    (λ Q g k k' at f rest. over-area g k k' at f (λ x to i e v met. rest x to i e (ap (λ x. Ok (Some x)) v)))
    (λ k. headed refl)
    n (λ bs. bpac_message (body bs)) body 4 (λ bs. ap (first_bpac id) (e bs))) s w h

module _ (id : ℕ) (sheet : List ℕ) where
  abbrev look : Place → BpacAnswer
  look p = if_bpac_id id (bpac_found sheet (found 72 id sheet p))

  bpac-answers : opened_as Err look (opened 3 0 sheet) ≡ bpac_answer_of id sheet
  unfolding bpac_answer_of
  bpac-answers = opens 3 0 sheet Err look (if_bpac_id id (first_bpac id (bpac_areas sheet))) (λ s w h. ap (if_bpac_id id) (bpac-finds id sheet s w h))

  module _ (o : Opened) (e : o ≡ opened 3 0 sheet) where
    pub bpac-refused : (why : Fault) → o ≡ Err why → Err why ≡ bpac_answer_of id sheet
    bpac-refused why q = ap (opened_as Err look) (sym q ∙ e) ∙ bpac-answers

    pub bpac-said : (p : Place) → o ≡ Ok p → (wide : ℕ) (r : BpacAnswer) → wide ≡ id → r ≡ if_bpac_id wide (bpac_found sheet (found 72 wide sheet p)) → r ≡ bpac_answer_of id sheet
    bpac-said p q wide r i h = h ∙ ap (λ x. if_bpac_id x (bpac_found sheet (found 72 x sheet p))) i ∙ ap (opened_as Err look) (sym q ∙ e) ∙ bpac-answers

-- the ID, as the code has it, against SF072's codes
module _ (id : ℕ) (field : Field) (is : field ≡ sf 72) (rest : BpacAnswer) where
  pub bpac-over : field.most < id → Err (nowhere refusal.Field) ≡ if_bpac_id id rest
  bpac-over h = ap (λ b. pick b (Err (nowhere refusal.Field)) rest) (sym (lt-ltb (sf 72).most id (rw is at h)))

  pub bpac-among : (r : BpacAnswer) → id ≤ field.most → r ≡ rest → r ≡ if_bpac_id id rest
  bpac-among r h e = e ∙ ap (λ b. pick b (Err (nowhere refusal.Field)) rest) (sym (le-ltb (sf 72).most id (rw is at h)))
