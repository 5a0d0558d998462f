-- The answers of the calls, over plain variables: the refusal of a sheet, or what is found on one that the writer accepts.
use Rattle.std.specs.Prelude.{Option, Result, Ok, Err, Some, None}
use mathlib.Core.Path.{◌≡◌, ap, sym, ◌∙◌}
use mathlib.Core.List.{List}
use Prim.Native.Nat.{ℕ}
use Rattle.answer.specs.declared.Fault.{Fault}
use Rattle.answer.specs.Place.{nowhere}
use Rattle.answer.specs.declared.Refusal.TheVariants as refusal
use Rattle.codes.specs.declared.Constellation.{Constellation}
use Rattle.layout.specs.Parts.{Part}
use Rattle.message.specs.Results.{Subtype}
use Rattle.message.specs.Messages.{constellation_for}
use Rattle.message.specs.Messages.{ocb_layout, by_constellation, constellation_of}
use Rattle.message.specs.Results.{Start}
use Rattle.message.specs.declared.State.{State}
use Rattle.message.specs.Machine.{start_of}
use Rattle.sheet.specs.declared.Written.{Written}
use Rattle.sheet.specs.Results.{WriteAnswer}
use Rattle.sheet.specs.Sheet.{judged_sheet}
use Rattle.views.specs.Results.{SatelliteAnswer}
use Rattle.views.specs.Results.{Found}
use Rattle.views.specs.Places.{opened_at, opened}
use Rattle.views.specs.Judged.{if_taken, for_constellation}
use Rattle.views.specs.Satellites.{nth, satellite_answer_of}
use Rattle.views.specs.SatellitePlaces.{Listed}
use Rattle.views.specs.Taken.{taken-holds, constellation-is, constellation-none}

-- ---- `open`

module _ (kind subtype : ℕ) (sheet : List ℕ) (a : WriteAnswer) (e : a ≡ judged_sheet kind subtype sheet) where
  pub open-refused : (why : Fault) → a ≡ Err why → Err why ≡ opened kind subtype sheet
  open-refused why q = ap (λ x. if_taken x Err (opened_at (start_of kind subtype))) (sym q ∙ e)

  module _ (w : Written) (q : a ≡ Ok w) (s : Start) (is : s ≡ start_of kind subtype) where
    taken : opened_at s ≡ opened kind subtype sheet
    taken = ap opened_at is ∙ ap (λ x. if_taken x Err (opened_at (start_of kind subtype))) (sym q ∙ e)

    pub open_unknown : s ≡ None → Err (nowhere refusal.UnknownType) ≡ opened kind subtype sheet
    open_unknown u = ap opened_at (sym u) ∙ taken

    pub open-known : (t : State) → s ≡ Some t → Ok (record { state = t; at = 0 }) ≡ opened kind subtype sheet
    open-known t u = ap opened_at (sym u) ∙ taken

-- ---- `gad_from` and its like, which differ in what they make of a place: what was found is x, and here v

pub found_as : {C : Type 0} (of : List ℕ → Found → C) (sheet : List ℕ) (f x v : Found) (r : C) → f ≡ x → f ≡ v → r ≡ of sheet v → r ≡ of sheet x
found_as of sheet f x v r e q h = h ∙ ap (of sheet) (sym q ∙ e)

pub same : {A C : Type 0} (f : A → C) (a b : A) → a ≡ b → f a ≡ f b
same f a b e = ap f e

pub same-found : {A : Type 0} (a b : A) → a ≡ b → ◌≡◌ {A = Result (Option A) Fault} (Ok (Some a)) (Ok (Some b))
same-found a b e = same (λ x. Ok (Some x)) a b e

-- ---- OCB

module _ (subtype : ℕ) (sheet : List ℕ) (place : ℕ) (a : WriteAnswer) (e : a ≡ judged_sheet 0 subtype sheet) where
  abbrev found : Part Constellation → SatelliteAnswer
  found p = for_constellation p (Err (nowhere refusal.UnknownType)) (λ c. nth c sheet place)

  pub satellite-refused : (why : Fault) → a ≡ Err why → Err why ≡ satellite_answer_of subtype sheet place
  unfolding satellite_answer_of
  satellite-refused why q = ap (λ x. if_taken x Err (found (constellation_of subtype))) (sym q ∙ e)

  module _ (w : Written) (q : a ≡ Ok w) (s : Subtype) (known : s ≡ constellation_for subtype) where
    said : (r : SatelliteAnswer) → r ≡ found (constellation_of subtype) → r ≡ satellite_answer_of subtype sheet place
    unfolding satellite_answer_of
    said r h = h ∙ ap (λ x. if_taken x Err (found (constellation_of subtype))) (sym q ∙ e)

    pub satellite-unknown : s ≡ None → Err (nowhere refusal.UnknownType) ≡ satellite_answer_of subtype sheet place
    satellite-unknown u = said (Err (nowhere refusal.UnknownType)) (ap found (sym (constellation-none subtype s known u)))

    module _ (c : Constellation) (is : s ≡ Some c) where
      pub satellite-listed : Listed c sheet
      satellite-listed = record { holds = taken-holds 0 subtype sheet (ocb_layout c) (ap (by_constellation ocb_layout) (constellation-is subtype s c known is)) e q }

      pub satellite-said : (r : SatelliteAnswer) → r ≡ nth c sheet place → r ≡ satellite_answer_of subtype sheet place
      satellite-said r h = said r (h ∙ ap found (sym (constellation-is subtype s c known is)))
