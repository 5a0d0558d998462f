-- Serves proofs, and is proved: what the writer's acceptance of a sheet says of its entries.
use Rattle.std.specs.Prelude.{◌≡◌, refl, Bool, true, false, List, ℕ, eqb, Ok, Err, Some, None}
use Rattle.std.proofs.Common.{ap, sym, ◌∙◌, subst, arith}
use Rattle.answer.specs.declared.Fault.{Fault}
use Rattle.answer.specs.Place.{nowhere}
use Rattle.answer.specs.declared.Refusal.TheVariants as refusal
use Rattle.codes.specs.declared.Constellation.{Constellation}
use Rattle.codes.specs.declared.Constellation.TheVariants.{Gps, Glonass, Galileo, BeiDou, Qzss}
use Rattle.layout.specs.Layout.{Layout, pick, Written, written, unwritten, write_l}
use Rattle.layout.specs.Parts.{Part, absent, present}
use Rattle.layout.specs.Holds.{Holds}
use Rattle.layout.specs.Reaches.{written-holds}
use Rattle.layout.specs.Walks.{Walks}
use Rattle.message.specs.Results.{Start}
use Rattle.message.specs.declared.State.{State}
use Rattle.message.specs.Results.{Subtype}
use Rattle.message.specs.Messages.{constellation_for}
use Rattle.message.specs.Messages.{Message, constellation_of, layout_for}
use Rattle.message.specs.Machine.{field_of, step_of, start_of, Starts, known, unknown, starts}
use Rattle.sheet.specs.Results.{WriteAnswer}
use Rattle.sheet.specs.Sheet.{then_length, write_answer_by, judged_sheet}
use Rattle.sheet.specs.Laws.{judging-sheet-with}
use Rattle.views.specs.Results.{Opened}
use Rattle.views.specs.declared.places.Place.{Place}
use Rattle.views.specs.Judged.{if_taken}
use Rattle.views.specs.Places.{opened_at, opened}

pub taken-holds : (kind subtype : ℕ) (sheet : List ℕ) (l : Layout Message) {a : WriteAnswer} {bits bytes : ℕ} → layout_for kind subtype ≡ present l
    → a ≡ judged_sheet kind subtype sheet → a ≡ Ok (record { bits = bits; bytes = bytes }) → Holds l sheet 0
unfolding judged_sheet
taken-holds kind subtype sheet l {a} {bits} {bytes} e p q = go (write_l l sheet) refl
    (sym (ap write_answer_by (judging-sheet-with kind subtype sheet e)) ∙ sym p ∙ q)
  where
    go : (o : Written) → write_l l sheet ≡ o → write_answer_by (then_length o) ≡ Ok (record { bits = bits; bytes = bytes }) → Holds l sheet 0
    go (written text) w r = written-holds l sheet text w
    go (unwritten why) w r = let z : ◌≡◌ {A = ℕ} 0 1 = cc in absurd (omega arith)

-- ---- what is made of the sheet's first place

abbrev pub opened_as : {C : Type 0} → (Fault → C) → (Place → C) → Opened → C
opened_as refused look (Err why) = refused why
opened_as refused look (Ok p) = look p

module _ {C : Type 0} (kind subtype : ℕ) (sheet : List ℕ) (refused : Fault → C) (look : Place → C) (rest : C) where
  -- what is to be shown of the layout, if there is one
  abbrev pub Looks : Part (Layout Message) → Type 0
  Looks absent = refused (nowhere refusal.UnknownType) ≡ rest
  Looks (present l) = (s : State) → Walks field_of step_of s l → Holds l sheet 0 → look (record { state = s; at = 0 }) ≡ rest

  pub opens : Looks (layout_for kind subtype) → opened_as refused look (opened kind subtype sheet) ≡ if_taken (judged_sheet kind subtype sheet) refused rest
  opens h = judge (judged_sheet kind subtype sheet) refl
    where
      start : (bits bytes : ℕ) → judged_sheet kind subtype sheet ≡ Ok (record { bits = bits; bytes = bytes }) → (x : Start) (p : Part (Layout Message)) → layout_for kind subtype ≡ p → Starts x p
          → opened_as refused look (opened_at x) ≡ rest
      start bits bytes e x p q (known {s = s} {l = l} w) = (subst Looks q h) s w (taken-holds kind subtype sheet l q refl e)
      start bits bytes e x p q unknown = subst Looks q h

      judge : (a : WriteAnswer) → judged_sheet kind subtype sheet ≡ a → opened_as refused look (if_taken a Err (opened_at (start_of kind subtype))) ≡ if_taken a refused rest
      judge (Err why) e = refl
      judge (Ok p) e = start p.bits p.bytes e (start_of kind subtype) (layout_for kind subtype) refl (starts kind subtype)

-- ---- the constellation as the code's enum has it

abbrev as_part : Subtype → Part Constellation
as_part (Some c) = present c
as_part None = absent

constellation-same : (subtype : ℕ) → constellation_of subtype ≡ as_part (constellation_for subtype)
constellation-same subtype = go (eqb subtype 0) (eqb subtype 1) (eqb subtype 2) (eqb subtype 3) (eqb subtype 4)
  where
    go : (a b c d e : Bool)
        → pick a (present Gps) (pick b (present Glonass) (pick c (present Galileo) (pick d (present BeiDou) (pick e (present Qzss) absent))))
        ≡ as_part (pick a (Some Gps) (pick b (Some Glonass) (pick c (Some Galileo) (pick d (Some BeiDou) (pick e (Some Qzss) None)))))
    go true b c d e = refl
    go false true c d e = refl
    go false false true d e = refl
    go false false false true e = refl
    go false false false false true = refl
    go false false false false false = refl

pub constellation-is : (subtype : ℕ) (s : Subtype) (c : Constellation) → s ≡ constellation_for subtype → s ≡ Some c → constellation_of subtype ≡ present c
constellation-is subtype s c p q = constellation-same subtype ∙ ap as_part (sym p ∙ q)

pub constellation-none : (subtype : ℕ) (s : Subtype) → s ≡ constellation_for subtype → s ≡ None → constellation_of subtype ≡ absent
constellation-none subtype s p q = constellation-same subtype ∙ ap as_part (sym p ∙ q)
