-- Theorems (document 02, request 2): a refusal's answer says document 01's number and is never 0; field's number and place too, each by bits of its own, wherever they have room, as they do
-- for every payload and for every sheet under 2^32 entries. Proved.
use Rattle.std.specs.Prelude.{◌≡◌, refl, Bool, true, false, cond, List, ℕ, ◌+◌, ◌*◌, ◌/◌, ◌%◌, ◌^◌, ◌≤◌, ◌<◌, ltb, length, Err}
use Rattle.std.proofs.Common.{ap, ap₂, ◌∙◌, arith, ltb-false}
use Rattle.answer.specs.Number.{number_of}
use Rattle.answer.specs.Place.{sf_in, at_in}
use Rattle.answer.specs.declared.Refusal.{Refusal}
use Rattle.answer.specs.declared.Refusal.TheVariants as refusal
use Rattle.answer.specs.declared.Fault.{Fault}
use Rattle.sheet.specs.Sheet.{judged, judged_sheet}
use Rattle.sheet.specs.Places.{judged-faults, payload-within, judged-sheet-faults, entry-within}
use Rattle.export.specs.Numbers.{at_most, most_sf, most_place, answer_of}

-- the lowest 8 bits are document 01's number, the next 24 the field's, the highest 32 the bit or the entry
pub record Exact (fault : Fault) : Type 0 where
  pub number : answer_of fault % 2 ^ 8 ≡ number_of fault.refusal
  pub sf : answer_of fault / 2 ^ 8 % 2 ^ 24 ≡ sf_in fault.place
  pub place : answer_of fault / 2 ^ 32 ≡ at_in fault.place

number_small : (why : Refusal) → (0 < number_of why) × (number_of why < 2 ^ 8)
number_small refusal.Short = (omega arith, omega arith)
number_small refusal.Preamble = (omega arith, omega arith)
number_small refusal.FrameCrc = (omega arith, omega arith)
number_small refusal.Length = (omega arith, omega arith)
number_small refusal.MessageCrc = (omega arith, omega arith)
number_small refusal.UnknownType = (omega arith, omega arith)
number_small refusal.MaskEmpty = (omega arith, omega arith)
number_small refusal.Field = (omega arith, omega arith)
number_small refusal.Room = (omega arith, omega arith)
number_small refusal.Sealed = (omega arith, omega arith)
number_small refusal.Tag = (omega arith, omega arith)
number_small refusal.NotOurs = (omega arith, omega arith)
number_small refusal.AreaOff = (omega arith, omega arith)
number_small refusal.Conflict = (omega arith, omega arith)
number_small refusal.BookFull = (omega arith, omega arith)
number_small refusal.Leftover = (omega arith, omega arith)
number_small refusal.State = (omega arith, omega arith)
number_small refusal.Form = (omega arith, omega arith)

-- the lowest 8 bits are document 01's number, whatever the place is ..
pub number-of-answer : (fault : Fault) → answer_of fault % 2 ^ 8 ≡ number_of fault.refusal
unfolding answer_of
number-of-answer fault = omega (arith, (number_small fault.refusal).1)

-- .. so no refusal is answered by 0
pub never-ok : (fault : Fault) → 0 < answer_of fault
unfolding answer_of
never-ok fault = omega (arith, (number_small fault.refusal).0)

at-most-is : (most x : ℕ) → x ≤ most → at_most most x ≡ x
unfolding at_most
at-most-is most x h = go (ltb x most) refl
  where
    go : (b : Bool) → ltb x most ≡ b → cond b x most ≡ x
    go true e = refl
    go false e = let k = ltb-false x most e in omega arith

pub exact : (fault : Fault) → sf_in fault.place ≤ most_sf → at_in fault.place ≤ most_place → Exact fault
unfolding answer_of
exact fault h k =
    let n : ℕ = number_of fault.refusal in
    let s : ℕ = sf_in fault.place in
    let p : ℕ = at_in fault.place in
    let small : n < 2 ^ 8 = (number_small fault.refusal).1 in
    let is : answer_of fault ≡ n + (2 ^ 8 * s + 2 ^ 32 * p)
    = ap₂ (λ (x y : ℕ). n + (2 ^ 8 * x + 2 ^ 32 * y)) (at-most-is most_sf s h) (at-most-is most_place p k) in
    record {
      number = ap (λ (x : ℕ). x % 2 ^ 8) is ∙ omega arith;
      sf = ap (λ (x : ℕ). x / 2 ^ 8 % 2 ^ 24) is ∙ omega arith;
      place = ap (λ (x : ℕ). x / 2 ^ 32) is ∙ omega arith;
    }

-- What a payload is refused by is told exactly ..
pub judged-exact : (kind subtype : ℕ) (payload : List ℕ) (why : Fault) → judged kind subtype payload ≡ Err why → Exact why
judged-exact kind subtype payload why e =
    let w = payload-within (judged-faults kind subtype payload why e) in
    exact why (omega (arith, w.sf)) (omega (arith, w.at))

-- .. and what a sheet is refused by, if it has fewer than 2^32 entries.
pub judged-sheet-exact : (kind subtype : ℕ) (sheet : List ℕ) (why : Fault) → length sheet < 2 ^ 32 → judged_sheet kind subtype sheet ≡ Err why → Exact why
judged-sheet-exact kind subtype sheet why few e =
    let w = entry-within (judged-sheet-faults kind subtype sheet why e) in
    exact why (omega (arith, w.sf)) (omega (arith, w.at))
