-- Theorems: on an OCB sheet that the writer accepts each number of a view is the value of its code; the last cases of Units.antt are not met.
use Rattle.std.specs.Prelude.{◌≡◌, refl, Bool, List, eqb, leb, get_or, Ok}
use Rattle.std.proofs.Common.{ap, sym, add-suc, add-one}
use Rattle.std.proofs.Math.Path.{subst}
use Rattle.std.proofs.Math.Bool.{true, false}
use Prim.Native.Nat.{ℕ, suc, ◌+◌, ◌/◌, ◌%◌}
use native.Mathlib.Omega.{arith}
use Rattle.answer.specs.declared.Refusal.TheVariants as refusal
use Rattle.codes.specs.declared.Constellation.{Constellation}
use Rattle.fields.specs.Fields.{yaw, sixfold, table, find, line_of, sf}
use Rattle.layout.specs.Layout.{Layout, done, field, pick, judge}
use Rattle.layout.specs.Parts.{Part, present, optional}
use Rattle.layout.specs.Holds.{Holds}
use Rattle.layout.specs.Reaches.{here, on, reaches-holds, reaches-to, part_if}
use Rattle.message.specs.Messages.{ocb_message, ocb_layout, by_constellation, constellation_of}
use Rattle.ocb.specs.Ocb as ocb
use Rattle.sheet.specs.Sheet.{judged_sheet}
use Rattle.values.specs.declared.Value.TheVariants.{OfYaw, Refused}
use Rattle.values.specs.declared.Yaw.TheVariants as yaws
use Rattle.values.specs.Values as values
use Rattle.values.specs.Values.{meant, value_of, yaw_by, yaw_of}
use Rattle.views.specs.Along.{EachOf, PartMet, not_there, there}
use Rattle.views.specs.Entries.{entries_of}
use Rattle.views.specs.Met.{has_value}
use Rattle.views.specs.Parts.{reaches-part}
use Rattle.views.specs.Satellites.{orbit_entries, satellites_in}
use Rattle.views.specs.SatellitePlaces.{orbit_at, clock_at, orbit_of, clock_start, blocks_at, satellite_from, satellite_end, numbers_in, body_of, reaches-orbit, reaches-satellite, reaches-satellites, satellites-in}
use Rattle.views.specs.Taken.{taken-holds}
use Rattle.views.specs.Units.{yaw_said, yaw_in}
use Rattle.views.specs.ValuesMet.{InMetres, IsYaw, At, metres-met, taken-has, each-met}

pub part-met : {B : Type 0} (P : B → Type 0) (x : B) (b : Bool) → (b ≡ true → P x) → PartMet P (part_if b x)
part-met P x true h = there (h refl)
part-met P x false h = not_there

-- the three corrections in metres, the yaw if it is there
pub record OrbitMet (o : ocb.Orbit) : Type 0 where
  pub radial : InMetres 20 o.radial
  pub along : InMetres 20 o.along
  pub cross : InMetres 20 o.cross
  pub yaw : PartMet IsYaw o.yaw

pub record ClockMet (c : ocb.Clock) : Type 0 where
  pub correction : InMetres 20 c.correction

pub data UseMet : ocb.Use → Type 0 where
  out : UseMet ocb.out_of_use
  used : {b : ocb.Blocks} → PartMet OrbitMet b.orbit → PartMet ClockMet b.clock → UseMet (ocb.in_use b)

pub record SatelliteMet (s : ocb.Satellite) : Type 0 where
  pub state : UseMet s.state

correction-met : (sheet : List ℕ) (at : ℕ) → judge (sf 20) (get_or sheet at 0) ≡ Ok tt → InMetres 20 (get_or sheet at 0)
unfolding line_of find table
correction-met sheet at j = metres-met 20 (get_or sheet at 0) refl (taken-has 20 (get_or sheet at 0) refl j)

yaw-met : (code : ℕ) → judge (sf 21) code ≡ Ok tt → IsYaw code
unfolding yaw_in yaw_of value_of line_of find table
yaw-met code j =
    let h : has_value (value_of 21 code) ≡ true = taken-has 21 code refl j in
    go (leb code 59) (eqb code 63) h
  where
    go : (x y : Bool) → has_value (values.pick x (meant yaw sixfold 1 code) (values.pick y (OfYaw yaws.Invalid) (Refused refusal.Field))) ≡ true
        → yaw_by (values.pick x (meant yaw sixfold 1 code) (values.pick y (OfYaw yaws.Invalid) (Refused refusal.Field)))
        ≡ Ok (yaw_said (yaw_by (values.pick x (meant yaw sixfold 1 code) (values.pick y (OfYaw yaws.Invalid) (Refused refusal.Field)))))
    go true y h = refl
    go false true h = refl
    go false false h = let z : ◌≡◌ {A = ℕ} 0 1 = cc in absurd (omega arith)

-- the part that is there
optional-holds : {A B : Type 0} (sheet : List ℕ) (at : ℕ) (part : (B → Layout A) → Layout A) (k : Part B → Layout A) (b : Bool) → b ≡ true
    → Holds (optional b part k) sheet at → Holds (part (λ x. k (present x))) sheet at
optional-holds sheet at part k b e h = subst (λ x. Holds (optional x part k) sheet at) e h

module _ {A : Type 0} (sheet : List ℕ) (yaw : ℕ) where
  orbit-met : (c : Constellation) (at : ℕ) (k : ocb.Orbit → Layout A) → Holds (ocb.orbit c yaw k) sheet at → OrbitMet (orbit_at sheet yaw at)
  unfolding Holds
  orbit-met c at k h =
      let p1 : suc at ≡ at + 1 = omega arith in
      let p2 : suc (suc at) ≡ at + 2 = omega arith in
      let p3 : suc (suc (suc at)) ≡ at + 3 = omega arith in
      let p4 : suc (suc (suc (suc at))) ≡ at + 4 = omega arith in
      record {
        radial = subst (At (InMetres 20) sheet) p1 (correction-met sheet (suc at) h.2.1);
        along = subst (At (InMetres 20) sheet) p2 (correction-met sheet (suc (suc at)) h.2.2.1);
        cross = subst (At (InMetres 20) sheet) p3 (correction-met sheet (suc (suc (suc at))) h.2.2.2.1);
        yaw = part-met IsYaw (get_or sheet (at + 4) 0) (eqb yaw 1) (λ e. subst (At IsYaw sheet) p4
            (yaw-met (get_or sheet (suc (suc (suc (suc at)))) 0) (optional-holds sheet (suc (suc (suc (suc at)))) (field (sf 21)) _ (eqb yaw 1) e h.2.2.2.2).1));
      }

  clock-met : (at : ℕ) (k : ocb.Clock → Layout A) → Holds (ocb.clock k) sheet at → ClockMet (clock_at sheet at)
  unfolding Holds
  clock-met at k h = record { correction = subst (At (InMetres 20) sheet) (sym (add-one at)) (correction-met sheet (suc at) h.2.1) }

  blocks-met : (c : Constellation) (at : ℕ) (k : ocb.Blocks → Layout A) → Holds (ocb.blocks c yaw k) sheet (at + 1) → UseMet (ocb.in_use (blocks_at sheet yaw at))
  blocks-met c at k h =
      let p : ℕ = get_or sheet (at + 1) 0 in
      let o : ℕ = entries_of orbit_entries (orbit_of sheet yaw at) in
      let rest : Part ocb.Orbit → Part ocb.Clock → Layout A
      = λ x y. optional (eqb (p % 2) 1) (ocb.bias c) (λ z. k (record { continuity = get_or sheet (at + 2) 0; orbit = x; clock = y; bias = z })) in
      let first : Holds (optional (eqb (p / 4 % 2) 1) (ocb.orbit c yaw) (λ x. optional (eqb (p / 2 % 2) 1) ocb.clock (rest x))) sheet (at + 3)
      = reaches-holds (on (at + 2) (add-suc at 1) (on (at + 3) (add-suc at 2) here)) h in
      let second : Holds (optional (eqb (p / 2 % 2) 1) ocb.clock (rest (orbit_of sheet yaw at))) sheet (clock_start sheet yaw at)
      = reaches-holds (reaches-to (at + 3 + o) (at + (3 + o)) (omega arith)
      (reaches-part (orbit_at sheet yaw (at + 3)) orbit_entries (at + 3) (eqb (p / 4 % 2) 1) (reaches-orbit c yaw (at + 3)) (λ x. optional (eqb (p / 2 % 2) 1) ocb.clock (rest x)))) first in
      used
      (part-met OrbitMet (orbit_at sheet yaw (at + 3)) (eqb (p / 4 % 2) 1) (λ e.
      orbit-met c (at + 3) (λ x. optional (eqb (p / 2 % 2) 1) ocb.clock (rest (present x))) (optional-holds sheet (at + 3) (ocb.orbit c yaw) (λ x. optional (eqb (p / 2 % 2) 1) ocb.clock (rest x)) (eqb (p / 4 % 2) 1) e first)))
      (part-met ClockMet (clock_at sheet (clock_start sheet yaw at)) (eqb (p / 2 % 2) 1) (λ e.
      clock-met (clock_start sheet yaw at) (λ x. rest (orbit_of sheet yaw at) (present x)) (optional-holds sheet (clock_start sheet yaw at) ocb.clock (rest (orbit_of sheet yaw at)) (eqb (p / 2 % 2) 1) e second)))

  satellite-met : (c : Constellation) (number : ℕ) (k : ocb.Satellite → Layout A) (at : ℕ) → Holds (ocb.satellite c yaw number k) sheet at
      → SatelliteMet (satellite_from sheet yaw number at)
  unfolding Holds
  satellite-met c number k at h = record { state = go (eqb (get_or sheet at 0) 1) h.2 }
    where
      go : (b : Bool)
          → Holds (pick b (k (record { number = number; state = ocb.out_of_use })) (ocb.blocks c yaw (λ x. k (record { number = number; state = ocb.in_use x })))) sheet (suc at)
          → UseMet (pick b ocb.out_of_use (ocb.in_use (blocks_at sheet yaw at)))
      go true h = out
      go false h =
          let next : ocb.Blocks → Layout A = λ x. k (record { number = number; state = ocb.in_use x }) in
          blocks-met c at next (subst (Holds (ocb.blocks c yaw next) sheet) (sym (add-one at)) h)

-- Each satellite of an OCB sheet that the writer accepts has its values.
pub ocb-met : (subtype : ℕ) (c : Constellation) (sheet : List ℕ) {bits bytes : ℕ} → constellation_of subtype ≡ present c
    → judged_sheet 0 subtype sheet ≡ Ok (record { bits = bits; bytes = bytes }) → EachOf SatelliteMet (satellites_in c sheet)
ocb-met subtype c sheet p e =
    let yaw : ℕ = get_or sheet 3 0 in
    subst (EachOf SatelliteMet) (sym (satellites-in c sheet))
    (each-met SatelliteMet (satellite_from sheet yaw) (satellite_end sheet yaw) (reaches-satellite c yaw) (satellite-met sheet yaw c) (numbers_in sheet c)
    (λ satellites. done (ocb_message c (body_of sheet satellites))) 8
    (reaches-holds (reaches-satellites c (λ b. done (ocb_message c b))) (taken-holds 0 subtype sheet (ocb_layout c) (ap (by_constellation ocb_layout) p) refl e)))
