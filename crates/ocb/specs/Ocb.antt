-- Definitions to believe: orbit, clock and bias messages, 0-0 to 0-4 (document 000, tables 6.3 to 6.12; document 01, "Payloads").
use Rattle.std.specs.Prelude.{List, ℕ, ◌/◌, ◌%◌, eqb}
use Rattle.std.specs.Int.Count.{ones}
use Rattle.layout.specs.Layout.{Layout, field, pick}
use Rattle.layout.specs.Parts.{free, Part, optional, times, each}
use Rattle.fields.specs.Fields.{sf}
use Rattle.codes.specs.declared.Constellation.{Constellation}
use Rattle.codes.specs.Tables.{bias_size}
use Rattle.codes.specs.Fields.{satellite_mask}
use Rattle.ocb.specs.Tables.{ephemeris_sf, iode_sf, phase_sf, code_sf}

pub record Orbit : Type 0 where
  pub iode : ℕ
  pub radial : ℕ
  pub along : ℕ
  pub cross : ℕ
  pub yaw : Part ℕ

pub record Clock : Type 0 where
  pub continuity : ℕ
  pub correction : ℕ
  pub error : ℕ

pub record PhaseBias : Type 0 where
  pub fix : ℕ
  pub continuity : ℕ
  pub correction : ℕ

-- a mask's size code and its bits
pub record Mask : Type 0 where
  pub size : ℕ
  pub bits : ℕ

pub record Bias : Type 0 where
  pub phase_mask : Mask
  pub phases : List PhaseBias
  pub code_mask : Mask
  pub codes : List ℕ

pub record Blocks : Type 0 where
  pub continuity : ℕ
  pub orbit : Part Orbit
  pub clock : Part Clock
  pub bias : Part Bias

-- "a satellite is either out of use or carries blocks"
pub data Use : Type 0 where
  out_of_use : Use
  in_use : (blocks : Blocks) → Use

pub record Satellite : Type 0 where
  pub number : ℕ
  pub state : Use

pub record Ocb : Type 0 where
  pub siou : ℕ
  pub end_of_set : ℕ
  pub datum : ℕ
  pub ephemeris : ℕ
  pub satellites : List Satellite

-- table 6.5; the yaw only with SF008 set
abbrev pub orbit : {A : Type 0} → Constellation → ℕ → (Orbit → Layout A) → Layout A
orbit constellation yaw_present k =
    field (sf (iode_sf constellation)) (λ iode.
    field (sf 20) (λ radial.
    field (sf 20) (λ along.
    field (sf 20) (λ cross.
    optional (eqb yaw_present 1) (field (sf 21)) (λ yaw.
    k (record { iode = iode; radial = radial; along = along; cross = cross; yaw = yaw }))))))

-- table 6.6
abbrev pub clock : {A : Type 0} → (Clock → Layout A) → Layout A
clock k =
    field (sf 22) (λ continuity.
    field (sf 20) (λ code.
    field (sf 24) (λ error.
    k (record { continuity = continuity; correction = code; error = error }))))

-- table 6.12
abbrev pub phase_bias : {A : Type 0} → (PhaseBias → Layout A) → Layout A
phase_bias k =
    field (sf 23) (λ fix.
    field (sf 15) (λ continuity.
    field (sf 20) (λ code.
    k (record { fix = fix; continuity = continuity; correction = code }))))

-- a bias mask: its size, its bits
abbrev pub bias_mask : {A : Type 0} → (number : ℕ) → Constellation → (Mask → Layout A) → Layout A
bias_mask number constellation k =
    field (sf number) (λ size.
    field (free number (bias_size constellation size)) (λ bits.
    k (record { size = size; bits = bits })))

-- tables 6.7 to 6.11; a block for each set bit, spare ones too
abbrev pub bias : {A : Type 0} → Constellation → (Bias → Layout A) → Layout A
bias constellation k =
    bias_mask (phase_sf constellation) constellation (λ phase_mask.
    times (ones phase_mask.bits) phase_bias (λ phases.
    bias_mask (code_sf constellation) constellation (λ code_mask.
    times (ones code_mask.bits) (field (sf 29)) (λ codes.
    k (record { phase_mask = phase_mask; phases = phases; code_mask = code_mask; codes = codes })))))

-- table 6.4: SF014's bits from the left are orbit, clock, bias
abbrev pub blocks : {A : Type 0} → Constellation → ℕ → (Blocks → Layout A) → Layout A
blocks constellation yaw_present k =
    field (sf 14) (λ present.
    field (sf 15) (λ continuity.
    optional (eqb (present / 4 % 2) 1) (orbit constellation yaw_present) (λ orbit.
    optional (eqb (present / 2 % 2) 1) clock (λ clock.
    optional (eqb (present % 2) 1) (bias constellation) (λ bias.
    k (record { continuity = continuity; orbit = orbit; clock = clock; bias = bias }))))))

-- table 6.4: with SF013 set nothing more
abbrev pub satellite : {A : Type 0} → Constellation → ℕ → ℕ → (Satellite → Layout A) → Layout A
satellite constellation yaw_present number k =
    field (sf 13) (λ do_not_use.
    pick (eqb do_not_use 1)
    (k (record { number = number; state = out_of_use }))
    (blocks constellation yaw_present (λ b. k (record { number = number; state = in_use b }))))

-- table 6.3
abbrev pub ocb : {A : Type 0} → Constellation → (Ocb → Layout A) → Layout A
ocb constellation k =
    field (sf 5) (λ siou.
    field (sf 10) (λ end_of_set.
    field (sf 69) (λ reserved.
    field (sf 8) (λ yaw_present.
    field (sf 9) (λ datum.
    field (sf (ephemeris_sf constellation)) (λ ephemeris.
    satellite_mask constellation (λ numbers.
    each numbers (satellite constellation yaw_present) (λ satellites.
    k (record { siou = siou; end_of_set = end_of_set; datum = datum; ephemeris = ephemeris; satellites = satellites })))))))))
