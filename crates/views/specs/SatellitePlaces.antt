-- Serves proofs, and is proved: what stands at each place of an OCB sheet, by the layout.
use Rattle.std.specs.Prelude.{◌≡◌, refl, Bool, true, false, List, ℕ, ◌+◌, ◌*◌, ◌/◌, ◌%◌, ◌<◌, eqb, length, get_or}
use Rattle.std.proofs.Common.{ap, ◌∙◌, add-suc, add-one, arith}
use Rattle.std.specs.Int.Count.{ones}
use Rattle.codes.specs.declared.Constellation.{Constellation}
use Rattle.codes.specs.Fields.{satellites_of}
use Rattle.fields.specs.Fields.{sf}
use Rattle.layout.specs.Layout.{Layout, done, field, pick}
use Rattle.layout.specs.Parts.{Part, each}
use Rattle.layout.specs.Record.{record_from, record_of}
use Rattle.message.specs.Messages.{ocb_layout}
use Rattle.layout.specs.Holds.{Holds}
use Rattle.layout.specs.Reaches.{Reaches, here, on, reaches-record, reaches_then, many, many_of, part_if, length-many, many-end, reaches-to, reaches-times, reaches-each}
use Rattle.ocb.specs.Ocb as ocb
use Rattle.views.specs.Entries.{entries_of}
use Rattle.views.specs.Parts.{reaches-part}
use Rattle.views.specs.Satellites.{orbit_entries, clock_entries, bias_entries, state_entries, satellites_in}

-- ---- what stands where

module _ (sheet : List ℕ) where
  abbrev entry : ℕ → ℕ
  entry at = get_or sheet at 0

  -- the yaw flag is SF008
  abbrev pub orbit_at : (yaw at : ℕ) → ocb.Orbit
  orbit_at yaw at = record { iode = entry at; radial = entry (at + 1); along = entry (at + 2); cross = entry (at + 3); yaw = part_if (eqb yaw 1) (entry (at + 4)) }

  abbrev pub clock_at : ℕ → ocb.Clock
  clock_at at = record { continuity = entry at; correction = entry (at + 1); error = entry (at + 2) }

  abbrev pub phase_at : ℕ → ocb.PhaseBias
  phase_at at = record { fix = entry at; continuity = entry (at + 1); correction = entry (at + 2) }

  -- how many phase biases, and where the code biases' mask starts
  abbrev pub phases_at : ℕ → ℕ
  phases_at at = ones (entry (at + 1))

  abbrev pub code_mask_at : ℕ → ℕ
  code_mask_at at = at + (2 + 3 * phases_at at)

  abbrev pub codes_at : ℕ → ℕ
  codes_at at = ones (entry (code_mask_at at + 1))

  abbrev pub bias_at : ℕ → ocb.Bias
  bias_at at =
      record {
        phase_mask = record { size = entry at; bits = entry (at + 1) };
        phases = many phase_at (λ x. x + 3) (phases_at at) (at + 2);
        code_mask = record { size = entry (code_mask_at at); bits = entry (code_mask_at at + 1) };
        codes = many entry (λ x. x + 1) (codes_at at) (code_mask_at at + 2);
      }

  -- of a satellite that starts at a place
  abbrev pub orbit_of : (yaw at : ℕ) → Part ocb.Orbit
  orbit_of yaw at = part_if (eqb (entry (at + 1) / 4 % 2) 1) (orbit_at yaw (at + 3))

  abbrev pub clock_start : (yaw at : ℕ) → ℕ
  clock_start yaw at = at + (3 + entries_of orbit_entries (orbit_of yaw at))

  abbrev pub clock_of : (yaw at : ℕ) → Part ocb.Clock
  clock_of yaw at = part_if (eqb (entry (at + 1) / 2 % 2) 1) (clock_at (clock_start yaw at))

  abbrev pub bias_start : (yaw at : ℕ) → ℕ
  bias_start yaw at = at + (3 + (entries_of orbit_entries (orbit_of yaw at) + entries_of clock_entries (clock_of yaw at)))

  abbrev pub bias_of : (yaw at : ℕ) → Part ocb.Bias
  bias_of yaw at = part_if (eqb (entry (at + 1) % 2) 1) (bias_at (bias_start yaw at))

  abbrev pub blocks_at : (yaw at : ℕ) → ocb.Blocks
  blocks_at yaw at = record { continuity = entry (at + 2); orbit = orbit_of yaw at; clock = clock_of yaw at; bias = bias_of yaw at }

  abbrev pub state_at : (yaw at : ℕ) → ocb.Use
  state_at yaw at = pick (eqb (entry at) 1) ocb.out_of_use (ocb.in_use (blocks_at yaw at))

  abbrev pub satellite_from : (yaw number at : ℕ) → ocb.Satellite
  satellite_from yaw number at = record { number = number; state = state_at yaw at }

  abbrev pub satellite_end : (yaw at : ℕ) → ℕ
  satellite_end yaw at = at + state_entries (state_at yaw at)

  -- the satellites that the mask lists; SF008 is entry 3, the mask's size and its bits are entries 6 and 7
  abbrev pub numbers_in : Constellation → List ℕ
  numbers_in c = satellites_of c (entry 6) (entry 7)

  abbrev pub body_of : List ocb.Satellite → ocb.Ocb
  body_of satellites = record { siou = entry 0; end_of_set = entry 1; datum = entry 4; ephemeris = entry 5; satellites = satellites }

-- ---- the walk

module _ {A : Type 0} {sheet : List ℕ} where
  reaches-yaw : (at : ℕ) (k : ℕ → Layout A) → Reaches sheet (k (get_or sheet at 0)) (at + 1) (field (sf 21) k) at
  reaches-yaw at k = on (at + 1) (add-one at) here

  pub reaches-orbit : (c : Constellation) (yaw at : ℕ) (k : ocb.Orbit → Layout A)
      → Reaches sheet (k (orbit_at sheet yaw at)) (at + orbit_entries (orbit_at sheet yaw at)) (ocb.orbit c yaw k) at
  reaches-orbit c yaw at k =
      let yaws : ℕ = entries_of (λ c. 1) (part_if (eqb yaw 1) (get_or sheet (at + 4) 0)) in
      on (at + 1) (add-one at) (on (at + 2) (add-suc at 1) (on (at + 3) (add-suc at 2) (on (at + 4) (add-suc at 3) (
      reaches-to (at + 4 + yaws) (at + (4 + yaws)) (omega arith)
      (reaches-part (get_or sheet (at + 4) 0) (λ c. 1) (at + 4) (eqb yaw 1) (reaches-yaw (at + 4)) _)))))

  reaches-clock : (at : ℕ) (k : ocb.Clock → Layout A) → Reaches sheet (k (clock_at sheet at)) (at + 3) (ocb.clock k) at
  reaches-clock at k = on (at + 1) (add-one at) (on (at + 2) (add-suc at 1) (on (at + 3) (add-suc at 2) here))

  reaches-phase : (k : ocb.PhaseBias → Layout A) (at : ℕ) → Reaches sheet (k (phase_at sheet at)) (at + 3) (ocb.phase_bias k) at
  reaches-phase k at = on (at + 1) (add-one at) (on (at + 2) (add-suc at 1) (on (at + 3) (add-suc at 2) here))

  reaches-code : (k : ℕ → Layout A) (at : ℕ) → Reaches sheet (k (get_or sheet at 0)) (at + 1) (field (sf 29) k) at
  reaches-code k at = on (at + 1) (add-one at) here

  reaches-bias : (c : Constellation) (at : ℕ) (k : ocb.Bias → Layout A)
      → Reaches sheet (k (bias_at sheet at)) (at + bias_entries (bias_at sheet at)) (ocb.bias c k) at
  reaches-bias c at k =
      let n : ℕ = phases_at sheet at in
      let m : ℕ = codes_at sheet at in
      let q : ℕ = code_mask_at sheet at in
      let ns : length (bias_at sheet at).phases ≡ n = length-many (phase_at sheet) (λ x. x + 3) n (at + 2) in
      let ms : length (bias_at sheet at).codes ≡ m = length-many (entry sheet) (λ x. x + 1) m (q + 2) in
      on (at + 1) (add-one at) (on (at + 2) (add-suc at 1) (
      reaches_then (reaches-to _ q (many-end 3 n (at + 2) ∙ omega arith) (reaches-times (phase_at sheet) (λ x. x + 3) reaches-phase n _ (at + 2))) (
      on (q + 1) (add-one q) (on (q + 2) (add-suc q 1) (
      reaches-to _ (at + bias_entries (bias_at sheet at)) (many-end 1 m (q + 2) ∙ omega arith) (reaches-times (entry sheet) (λ x. x + 1) reaches-code m _ (q + 2)))))))

  reaches-blocks : (c : Constellation) (yaw at : ℕ) (k : ocb.Blocks → Layout A)
      → Reaches sheet (k (blocks_at sheet yaw at)) (at + state_entries (ocb.in_use (blocks_at sheet yaw at))) (ocb.blocks c yaw k) (at + 1)
  reaches-blocks c yaw at k =
      let p : ℕ = get_or sheet (at + 1) 0 in
      let o : ℕ = entries_of orbit_entries (orbit_of sheet yaw at) in
      let d : ℕ = entries_of clock_entries (clock_of sheet yaw at) in
      let b : ℕ = entries_of bias_entries (bias_of sheet yaw at) in
      on (at + 2) (add-suc at 1) (on (at + 3) (add-suc at 2) (
      reaches_then (reaches-to (at + 3 + o) (at + (3 + o)) (omega arith)
      (reaches-part (orbit_at sheet yaw (at + 3)) orbit_entries (at + 3) (eqb (p / 4 % 2) 1) (reaches-orbit c yaw (at + 3)) _)) (
      reaches_then (reaches-to (at + (3 + o) + d) (at + (3 + (o + d))) (omega arith)
      (reaches-part (clock_at sheet (at + (3 + o))) clock_entries (at + (3 + o)) (eqb (p / 2 % 2) 1) (reaches-clock (at + (3 + o))) _)) (
      reaches-to (at + (3 + (o + d)) + b) (at + (3 + (o + (d + b)))) (omega arith)
      (reaches-part (bias_at sheet (at + (3 + (o + d)))) bias_entries (at + (3 + (o + d))) (eqb (p % 2) 1) (reaches-bias c (at + (3 + (o + d)))) _)))))

  pub reaches-satellite : (c : Constellation) (yaw number : ℕ) (k : ocb.Satellite → Layout A) (at : ℕ)
      → Reaches sheet (k (satellite_from sheet yaw number at)) (satellite_end sheet yaw at) (ocb.satellite c yaw number k) at
  reaches-satellite c yaw number k at = on (at + 1) (add-one at) (go (eqb (get_or sheet at 0) 1))
    where
      go : (b : Bool)
          → Reaches sheet (k (record { number = number; state = pick b ocb.out_of_use (ocb.in_use (blocks_at sheet yaw at)) }))
          (at + state_entries (pick b ocb.out_of_use (ocb.in_use (blocks_at sheet yaw at))))
          (pick b (k (record { number = number; state = ocb.out_of_use })) (ocb.blocks c yaw (λ x. k (record { number = number; state = ocb.in_use x })))) (at + 1)
      go true = here
      go false = reaches-blocks c yaw at (λ x. k (record { number = number; state = ocb.in_use x }))

  pub reaches-satellites : (c : Constellation) (k : ocb.Ocb → Layout A)
      → Reaches sheet (each (numbers_in sheet c) (ocb.satellite c (get_or sheet 3 0)) (λ satellites. k (body_of sheet satellites))) 8 (ocb.ocb c k) 0
  reaches-satellites c k = on 1 refl (on 2 refl (on 3 refl (on 4 refl (on 5 refl (on 6 refl (on 7 refl (on 8 refl here)))))))

-- the message, and whatever is made of it
abbrev pub satellites_at : Constellation → List ℕ → List ocb.Satellite
satellites_at c sheet = many_of (satellite_from sheet (get_or sheet 3 0)) (satellite_end sheet (get_or sheet 3 0)) (numbers_in sheet c) 8

pub ocb-record : {A : Type 0} (c : Constellation) (sheet : List ℕ) (f : ocb.Ocb → A) → record_of (ocb.ocb c (λ body. done (f body))) sheet ≡ f (body_of sheet (satellites_at c sheet))
unfolding record_from
ocb-record c sheet f =
    let yaw : ℕ = get_or sheet 3 0 in
    let all = reaches-each {sheet = sheet} (satellite_from sheet yaw) (satellite_end sheet yaw) (reaches-satellite c yaw) (numbers_in sheet c)
    (λ satellites. done (f (body_of sheet satellites))) 8 in
    reaches-record {sheet = sheet} (reaches_then (reaches-satellites c (λ body. done (f body))) all)

pub satellites-in : (c : Constellation) (sheet : List ℕ) → satellites_in c sheet ≡ satellites_at c sheet
satellites-in c sheet = ap (λ (o : ocb.Ocb). o.satellites) (ocb-record c sheet (λ body. body))

-- ---- what the code asks of a sheet before it looks at the satellites: the writer accepts it

pub record Listed (c : Constellation) (sheet : List ℕ) : Type 0 where
  pub holds : Holds (ocb_layout c) sheet 0

-- and that there is a satellite at the place
pub record Seats (sheet : List ℕ) (yaw place : ℕ) : Type 0 where
  pub constellation : Constellation
  pub listed : Listed constellation sheet
  pub flag : yaw ≡ get_or sheet 3 0
  pub inside : place < length (numbers_in sheet constellation)
