-- The answers of gadarea.rt: what the machine finds is the first block with the ID, and each answer of the code, worded as the code makes its tests.
use Rattle.std.specs.Prelude.{Ok, Err, Some, None}
use mathlib.Core.Path.{◌≡◌, refl, ap, sym, ◌∙◌}
use mathlib.Core.List.{List}
use Prim.Native.Nat.{ℕ}
use Rattle.answer.specs.declared.Fault.{Fault}
use Rattle.gad.specs.Gad as gad
use Rattle.fields.specs.Fields.{sf}
use Rattle.layout.specs.Layout.{done}
use Rattle.layout.specs.Holds.{Holds}
use Rattle.layout.specs.Walks.{Walks}
use Rattle.message.specs.declared.State.{State}
use Rattle.message.specs.Machine.{field_of, step_of}
use Rattle.message.specs.Messages.{gad_message, gad_layout}
use Rattle.views.specs.Results.{GadAnswer}
use Rattle.views.specs.Results.{Opened}
use Rattle.views.specs.declared.places.Place.{Place}
use Rattle.views.specs.Along.{headed, goes-finds, finds-first}
use Rattle.views.specs.AlongGad.{gad_seen, gad_found, over-block, over-head}
use Rattle.views.specs.Gads.{gad_blocks, gad_area, first_gad, gad_answer_of}
use Rattle.views.specs.Places.{opened, found}
use Rattle.views.specs.Taken.{opened_as, opens}

gad-finds : (id : ℕ) (sheet : List ℕ) (s : State) → Walks field_of step_of s gad_layout → Holds gad_layout sheet 0
    → gad_found sheet (found 31 id sheet (record { state = s; at = 0 })) ≡ first_gad id (gad_blocks sheet)
unfolding sf
gad-finds id sheet s w h =
    let shown : (at : ℕ) (code : (sf before : ℕ) → ℕ) → GadAnswer = λ at code. Ok (Some (gad_seen code)) in
    let said : gad.Gad → GadAnswer = λ b. first_gad id b.blocks in
    over-head (goes-finds sheet 31 id (Ok None) shown said) (λ b. done (gad_message b)) (λ b. done b) (λ n body e.
    finds-first sheet 31 id (Ok None) shown said gad.block gad.block (λ (b : gad.Block). b.id) (λ b. 7) (λ at b. Ok (Some (gad_area b)))
    (λ Q g k k' at f rest. over-block g k k' at f (λ x to i e v met. rest x to i e (ap (λ x. Ok (Some x)) v)))
    (λ k. headed refl)
    n (λ bs. gad_message (body bs)) body 4 (λ bs. ap (first_gad id) (e bs))) s w h

module _ (id : ℕ) (sheet : List ℕ) where
  abbrev look : Place → GadAnswer
  look p = gad_found sheet (found 31 id sheet p)

  gad-answers : opened_as Err look (opened 2 0 sheet) ≡ gad_answer_of id sheet
  unfolding gad_answer_of
  gad-answers = opens 2 0 sheet Err look (first_gad id (gad_blocks sheet)) (gad-finds id sheet)

  module _ (o : Opened) (e : o ≡ opened 2 0 sheet) where
    pub gad-refused : (why : Fault) → o ≡ Err why → Err why ≡ gad_answer_of id sheet
    gad-refused why q = ap (opened_as Err look) (sym q ∙ e) ∙ gad-answers

    pub gad-said : (p : Place) → o ≡ Ok p → (wide : ℕ) (r : GadAnswer) → wide ≡ id → r ≡ gad_found sheet (found 31 wide sheet p) → r ≡ gad_answer_of id sheet
    gad-said p q wide r i h = h ∙ ap (λ x. gad_found sheet (found 31 x sheet p)) i ∙ ap (opened_as Err look) (sym q ∙ e) ∙ gad-answers
