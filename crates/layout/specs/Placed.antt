-- Theorems, for every layout that a machine walks (document 02, request 2): its faults are SHORT, FIELD and MASK_EMPTY, and each has a place with a field's number; LEFTOVER has none;
-- SHORT is at the first entry that is not there whole. Proved.
use Rattle.std.proofs.Math.Path.{◌≡◌, refl, subst}
use Rattle.std.proofs.Common.{ap, sym, ◌∙◌, arith, length-append}
use Rattle.std.specs.Prelude.{Bool, true, false, eqb, ltb, leb, length, take, drop, Ok, Err, Some}
use Rattle.std.proofs.lemmas.Bool.{false≢true}
use mathlib.Core.List.{List, [], ◌∷◌, ◌++◌}
use Prim.Native.Nat.{ℕ, ◌^◌, ◌<◌}
use Rattle.answer.specs.declared.Refusal.{Refusal}
use Rattle.answer.specs.declared.Refusal.TheVariants as refusal
use Rattle.answer.specs.declared.Fault as answer
use Rattle.answer.specs.Place.{nowhere, fault_at, at_in, has_place, of_code, moved, further}
use Rattle.bits.specs.Bits.{bits_of, number}
use Rattle.layout.specs.declared.Field.{Field}
use Rattle.layout.specs.Results.{Verdict}
use Rattle.layout.specs.Layout.{Layout, field, pick, judge, Outcome, accepted, refused, enough, judged, before, read_l}
use Rattle.layout.specs.Layout.{Written, written, unwritten, fitting, judged_w, behind, write_l}
use Rattle.layout.specs.Walks.{Numbered, Fine, Walks, ends, goes}
use Rattle.layout.specs.Run.{taken-fits}
use Rattle.layout.specs.Places.{Before, none, one, ReadCause, short, fault, ReadStop, WriteCause, ended, wide, WriteStop, entry, leftover}

-- a fault of a payload or of a sheet: what has a place, at a field's number
pub record Placed (why : answer.Fault) : Type 0 where
  pub has : has_place why.refusal ≡ true
  pub sf : ℕ
  pub at : ℕ
  pub place : why.place ≡ Some (record { sf = sf; at = at })
  pub number : Numbered sf

here : (f : Field) → Fine f → (why : Refusal) → has_place why ≡ true → Placed (fault_at why f.sf 0)
here f fine why h = record { has = h; sf = f.sf; at = 0; place = refl; number = fine.number }

-- with so many bits or entries before it
later : (n : ℕ) {why : answer.Fault} → Placed why → Placed (further n why)
later n p = record { has = p.has; sf = p.sf; at = _; place = ap (moved n) p.place; number = p.number }

-- what a field does not take
fault-of : (f : Field) → Fine f → (c : ℕ) (why : Refusal) → judge f c ≡ Err why → of_code why ≡ true
unfolding judge
fault-of f fine c why e = go (eqb c f.extra) (ltb c f.least) (ltb f.most c) (eqb c f.except) e
  where
    by : (r : Refusal) → of_code r ≡ true → ◌≡◌ {A = Verdict} (Err r) (Err why) → of_code why ≡ true
    by r h q = let z : r ≡ why = cc in subst (λ x. of_code x ≡ true) z h

    go : (w x y z : Bool) → ◌≡◌ {A = Verdict} (pick w (Ok tt) (pick x (Err f.under) (pick y (Err f.over) (pick z (Err refusal.Field) (Ok tt))))) (Err why) → of_code why ≡ true
    go true x y z e = let n : ◌≡◌ {A = ℕ} 0 1 = cc in absurd (omega arith)
    go false true y z e = by f.under fine.under e
    go false false true z e = by f.over fine.over e
    go false false false true e = by refusal.Field refl e
    go false false false false e = let n : ◌≡◌ {A = ℕ} 0 1 = cc in absurd (omega arith)

-- which has a place
of-has : (why : Refusal) → of_code why ≡ true → has_place why ≡ true
of-has refusal.MaskEmpty e = refl
of-has refusal.Field e = refl
of-has refusal.Short e = refl
of-has refusal.Preamble e = e
of-has refusal.FrameCrc e = e
of-has refusal.Length e = e
of-has refusal.MessageCrc e = e
of-has refusal.UnknownType e = e
of-has refusal.Room e = e
of-has refusal.Sealed e = e
of-has refusal.Tag e = e
of-has refusal.NotOurs e = e
of-has refusal.AreaOff e = e
of-has refusal.Conflict e = e
of-has refusal.BookFull e = e
of-has refusal.Leftover e = e
of-has refusal.State e = e
of-has refusal.Form e = e

fault-has : (f : Field) → Fine f → (c : ℕ) (why : Refusal) → judge f c ≡ Err why → has_place why ≡ true
fault-has f fine c why e = of-has why (fault-of f fine c why e)

-- ---- reading

field-placed : {A : Type 0} (f : Field) → Fine f → (c : ℕ) (b : Bool) (v : Verdict) (o : Outcome A) (why : answer.Fault) → judge f c ≡ v
    → (v ≡ Ok tt → (why' : answer.Fault) → o ≡ refused why' → Placed why')
    → enough f.sf b (judged f.sf v (before c f.width o)) ≡ refused why → Placed why
field-placed f fine c false v o why q ih e =
    let z : fault_at refusal.Short f.sf 0 ≡ why = cc in subst Placed z (here f fine refusal.Short refl)
field-placed f fine c true (Err r) o why q ih e =
    let z : fault_at r f.sf 0 ≡ why = cc in subst Placed z (here f fine r (fault-has f fine c r q))
field-placed f fine c true (Ok _) (accepted v cs n) why q ih e = let z : ◌≡◌ {A = ℕ} 0 1 = cc in absurd (omega arith)
field-placed f fine c true (Ok _) (refused first) why q ih e =
    let z : further f.width first ≡ why = cc in subst Placed z (later f.width (ih refl first refl))

module _ {S A : Type 0} {field_of : S → Field} {step_of : S → ℕ → S} where
  pub read-placed : {s : S} {l : Layout A} → Walks field_of step_of s l → (bits : List ℕ) (why : answer.Fault) → read_l l bits ≡ refused why → Placed why
  unfolding read_l
  read-placed (ends e) bits why r = let z : ◌≡◌ {A = ℕ} 0 1 = cc in absurd (omega arith)
  read-placed (goes {f = f} {next} e fine walks) bits why r =
      let c : ℕ = number (take f.width bits) in
      field-placed f fine c (leb f.width (length bits)) (judge f c) (read_l (next c) (drop f.width bits)) why refl
      (λ q why' r'. read-placed (walks c (taken-fits fine q)) (drop f.width bits) why' r') r

-- ---- writing

-- a refusal of a sheet by its layout
pub data SheetFault (why : answer.Fault) : Type 0 where
  placed : Placed why → SheetFault why
  over : why ≡ nowhere refusal.Leftover → SheetFault why

later-fault : (n : ℕ) {why : answer.Fault} → SheetFault why → SheetFault (further n why)
later-fault n (placed p) = placed (later n p)
later-fault n (over e) = over (ap (further n) e)

entry-placed : (f : Field) → Fine f → (c : ℕ) (v : Verdict) (b : Bool) (o : Written) (why : answer.Fault) → judge f c ≡ v
    → (v ≡ Ok tt → (why' : answer.Fault) → o ≡ unwritten why' → SheetFault why')
    → judged_w f.sf v (fitting f.sf b (behind (bits_of f.width c) o)) ≡ unwritten why → SheetFault why
entry-placed f fine c (Err r) b o why q ih e =
    let z : fault_at r f.sf 0 ≡ why = cc in subst SheetFault z (placed (here f fine r (fault-has f fine c r q)))
entry-placed f fine c (Ok _) false o why q ih e =
    let z : fault_at refusal.Field f.sf 0 ≡ why = cc in subst SheetFault z (placed (here f fine refusal.Field refl))
entry-placed f fine c (Ok _) true (written bs) why q ih e = let z : ◌≡◌ {A = ℕ} 0 1 = cc in absurd (omega arith)
entry-placed f fine c (Ok _) true (unwritten first) why q ih e =
    let z : further 1 first ≡ why = cc in subst SheetFault z (later-fault 1 (ih refl first refl))

module _ {S A : Type 0} {field_of : S → Field} {step_of : S → ℕ → S} where
  pub write-placed : {s : S} {l : Layout A} → Walks field_of step_of s l → (sheet : List ℕ) (why : answer.Fault) → write_l l sheet ≡ unwritten why → SheetFault why
  unfolding write_l
  write-placed (ends e) [] why r = let z : ◌≡◌ {A = ℕ} 0 1 = cc in absurd (omega arith)
  write-placed (ends e) (c ∷ cs) why r = over cc
  write-placed (goes {f = f} e fine walks) [] why r =
      let z : fault_at refusal.Short f.sf 0 ≡ why = cc in subst SheetFault z (placed (here f fine refusal.Short refl))
  write-placed (goes {f = f} {next} e fine walks) (c ∷ cs) why r =
      entry-placed f fine c (judge f c) (ltb c (2 ^ f.width)) (write_l (next c) cs) why refl (λ q why' r'. write-placed (walks c (taken-fits fine q)) cs why' r') r

-- ---- SHORT: it is at the first entry that is not there whole

module _ {S A : Type 0} {field_of : S → Field} {step_of : S → ℕ → S} where
  fine-there : {s : S} {l : Layout A} → Walks field_of step_of s l → {cs said : List ℕ} {f : Field} {next : ℕ → Layout A} → Before l cs said (field f next) → Fine f
  fine-there (ends {s = s} {v = v} _) {cs = cs} {said = said} {f = f} {next = next} x5 = elim x5 [ ]
  fine-there (goes e fine walks) none = fine
  fine-there (goes e fine walks) (one c j fits more) = fine-there (walks c fits) more

  -- the bits from the place on are too few for the field there ..
  pub short-bits : {s : S} {l : Layout A} → Walks field_of step_of s l → (bits : List ℕ) (why : answer.Fault) (stop : ReadStop l bits why) → why.refusal ≡ refusal.Short
      → length stop.rest < stop.here.width
  short-bits walks bits why stop e = go stop.here (fine-there walks stop.first) why.refusal stop.cause e
    where
      go : (f : Field) → Fine f → (r : Refusal) → ReadCause f stop.rest r → r ≡ refusal.Short → length stop.rest < f.width
      go f fine r (short h) e = h
      go f fine r (fault h j) e =
          let z : of_code r ≡ true = fault-of f fine _ r j in
          absurd (false≢true (ap of_code (sym e) ∙ z))

  -- .. and the place is the sheet's length.
  pub short-sheet : {s : S} {l : Layout A} → Walks field_of step_of s l → (sheet : List ℕ) (why : answer.Fault) → WriteStop l sheet why → why.refusal ≡ refusal.Short
      → at_in why.place ≡ length sheet
  short-sheet walks sheet why (leftover v codes said c rest first begins e) q =
      let z : refusal.Leftover ≡ refusal.Short = ap (λ (x : answer.Fault). x.refusal) (sym e) ∙ q in
      let y : ◌≡◌ {A = ℕ} 0 1 = cc in absurd (omega arith)
  short-sheet walks sheet why (entry here next codes said rest first begins cause place) q =
      ap at_in place ∙ go here (fine-there walks first) rest why.refusal cause q begins
    where
      go : (f : Field) → Fine f → (rest : List ℕ) (r : Refusal) → WriteCause f rest r → r ≡ refusal.Short → sheet ≡ codes ++ rest → length codes ≡ length sheet
      go f fine rest r ended e b = omega (arith, ap length b, length-append codes [])
      go f fine rest r (fault j) e b =
          let z : of_code r ≡ true = fault-of f fine _ r j in
          absurd (false≢true (ap of_code (sym e) ∙ z))
      go f fine rest r (wide j h) e b = let z : refusal.Field ≡ refusal.Short = e in let y : ◌≡◌ {A = ℕ} 0 1 = cc in absurd (omega arith)
