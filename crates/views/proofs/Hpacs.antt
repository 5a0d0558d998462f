-- The answers of hpacarea.rt: what the machine finds is the first block with the ID, and each answer of the code, worded as the code makes its tests.
use Rattle.std.specs.Prelude.{Ok, Err, Some, None}
use mathlib.Core.Path.{◌≡◌, refl, ap, sym, ◌∙◌}
use mathlib.Core.List.{List}
use Prim.Native.Nat.{ℕ}
use Rattle.answer.specs.declared.Fault.{Fault}
use Rattle.answer.specs.Place.{nowhere}
use Rattle.answer.specs.declared.Refusal.TheVariants as refusal
use Rattle.codes.specs.declared.Constellation.{Constellation}
use Rattle.hpac.specs.Hpac as hpac
use Rattle.fields.specs.Fields.{sf}
use Rattle.layout.specs.Layout.{done}
use Rattle.layout.specs.Parts.{Part, absent, present}
use Rattle.layout.specs.Holds.{Holds}
use Rattle.layout.specs.Walks.{Walks}
use Rattle.message.specs.declared.State.{State}
use Rattle.message.specs.Machine.{field_of, step_of}
use Rattle.message.specs.Messages.{hpac_message, hpac_layout, by_constellation, constellation_of}
use Rattle.views.specs.Results.{HpacAnswer}
use Rattle.views.specs.Results.{Opened}
use Rattle.views.specs.declared.places.Place.{Place}
use Rattle.views.specs.Along.{headed, goes-finds, finds-first}
use Rattle.views.specs.AlongHpac.{hpac_seen, hpac_found, over-area, over-head}
use Rattle.views.specs.Hpacs.{hpac_areas, hpac_entries, hpac_area, first_hpac, hpac_answer_of}
use Rattle.views.specs.Judged.{for_constellation}
use Rattle.views.specs.Places.{opened, found}
use Rattle.views.specs.Taken.{opened_as, Looks, opens}

hpac-finds : (c : Constellation) (id : ℕ) (sheet : List ℕ) (s : State) → Walks field_of step_of s (hpac_layout c) → Holds (hpac_layout c) sheet 0
    → hpac_found sheet (found 31 id sheet (record { state = s; at = 0 })) ≡ first_hpac id (hpac_areas c sheet)
unfolding sf
hpac-finds c id sheet s w h =
    let shown : (at : ℕ) (code : (sf before : ℕ) → ℕ) → HpacAnswer = λ at code. Ok (Some (hpac_seen at code)) in
    let said : hpac.Hpac → HpacAnswer = λ b. first_hpac id b.areas in
    over-head (goes-finds sheet 31 id (Ok None) shown said) c (λ b. done ((hpac_message c) b)) (λ b. done b) (λ n body e.
    finds-first sheet 31 id (Ok None) shown said (hpac.area c) (hpac.area c) (λ (b : hpac.Area). b.id) hpac_entries (λ at b. Ok (Some (hpac_area at b)))
    (λ Q g k k' at f rest. over-area g c k k' at f (λ x to i e v. rest x to i e (ap (λ x. Ok (Some x)) v)))
    (λ k. headed refl)
    n (λ bs. (hpac_message c) (body bs)) body 4 (λ bs. ap (first_hpac id) (e bs))) s w h

module _ (subtype id : ℕ) (sheet : List ℕ) where
  abbrev look : Place → HpacAnswer
  look p = hpac_found sheet (found 31 id sheet p)

  hpac-answers : opened_as Err look (opened 1 subtype sheet) ≡ hpac_answer_of subtype id sheet
  unfolding hpac_answer_of
  hpac-answers = opens 1 subtype sheet Err look (of (constellation_of subtype)) (go (constellation_of subtype))
    where
      of : Part Constellation → HpacAnswer
      of p = for_constellation p (Err (nowhere refusal.UnknownType)) (λ c. first_hpac id (hpac_areas c sheet))

      go : (p : Part Constellation) → Looks 1 subtype sheet Err look (of p) (by_constellation hpac_layout p)
      go absent = refl
      go (present c) = hpac-finds c id sheet

  module _ (o : Opened) (e : o ≡ opened 1 subtype sheet) where
    pub hpac-refused : (why : Fault) → o ≡ Err why → Err why ≡ hpac_answer_of subtype id sheet
    hpac-refused why q = ap (opened_as Err look) (sym q ∙ e) ∙ hpac-answers

    pub hpac-said : (p : Place) → o ≡ Ok p → (wide : ℕ) (r : HpacAnswer) → wide ≡ id → r ≡ hpac_found sheet (found 31 wide sheet p) → r ≡ hpac_answer_of subtype id sheet
    hpac-said p q wide r i h = h ∙ ap (λ x. hpac_found sheet (found 31 x sheet p)) i ∙ ap (opened_as Err look) (sym q ∙ e) ∙ hpac-answers
