-- Serves proofs: what the functions of store_ocb.rt must come to, by the parts of the OCB layout (document 000, tables 6.3 to 6.12).
use Rattle.std.specs.Prelude.{◌≡◌, List, ℕ, ◌+◌, ◌/◌, ◌%◌, ◌^◌, eqb, length, set}
use Rattle.std.specs.Int.Count.{ones}
use Rattle.bits.specs.Bits.{to_bits, got}
use Rattle.layout.specs.Layout.{Layout, field}
use Rattle.layout.specs.Parts.{optional, times, each}
use Rattle.layout.specs.Run.{finished, run_l}
use Rattle.codes.specs.declared.Constellation.{Constellation}
use Rattle.codes.specs.Fields.{satellite_mask}
use Rattle.fields.specs.Fields.{sf}
use Rattle.ocb.specs.Tables.{ephemeris_sf, phase_sf, code_sf}
use Rattle.ocb.specs.Ocb as ocb
use Rattle.message.specs.Messages.{Message, ocb_layout}
use Rattle.sheet.specs.declared.store.Here.{Here}
use Rattle.sheet.specs.Stores.{Finishes, Stores}
use Rattle.sheet.specs.StoresHpac.{Moved}

-- three codes in a row, of these widths, that are cut out of one word and stored
pub record Cut (payload : List ℕ) (pos at a b c : ℕ) (sheet sheet' : List ℕ) : Type 0 where
  pub whole : ℕ
  pub is : whole ≡ got payload pos (a + (b + c))
  pub stored : sheet' ≡ set (set (set sheet at (whole / 2 ^ (b + c))) (at + 1) (whole / 2 ^ c % 2 ^ b)) (at + 1 + 1) (whole % 2 ^ c)

-- a mask, and the biases that it says
abbrev pub phases_part : Constellation → (ocb.Mask × List ocb.PhaseBias → Layout Message) → Layout Message
phases_part c k = ocb.bias_mask (phase_sf c) c (λ mask. times (ones mask.bits) ocb.phase_bias (λ phases. k (mask, phases)))

abbrev pub codes_part : Constellation → (ocb.Mask × List ℕ → Layout Message) → Layout Message
codes_part c k = ocb.bias_mask (code_sf c) c (λ mask. times (ones mask.bits) (field (sf 29)) (λ codes. k (mask, codes)))

-- a satellite behind SF014 and SF015, whatever that is
abbrev pub blocks_part : Constellation → (yaw present continuity : ℕ) → (ocb.Blocks → Layout Message) → Layout Message
blocks_part c yaw present continuity k =
    optional (eqb (present / 4 % 2) 1) (ocb.orbit c yaw) (λ orbit.
    optional (eqb (present / 2 % 2) 1) ocb.clock (λ clock.
    optional (eqb (present % 2) 1) (ocb.bias c) (λ bias.
    k (record { continuity = continuity; orbit = orbit; clock = clock; bias = bias }))))

pub record BlocksStored (c : Constellation) (yaw present : ℕ) (payload : List ℕ) (pos at : ℕ) (sheet : List ℕ) (r : Here) (sheet' : List ℕ) : Type 0 where
  pub moved : (continuity : ℕ) → Moved payload (blocks_part c yaw present continuity) pos at sheet 2070 r sheet'

-- a satellite, whatever its number, and satellites, as many as are said, from entry 8 on
pub record SatelliteStored (c : Constellation) (yaw : ℕ) (payload : List ℕ) (pos at : ℕ) (sheet : List ℕ) (r : Here) (sheet' : List ℕ) : Type 0 where
  pub moved : (number : ℕ) → Moved payload (ocb.satellite c yaw number) pos at sheet 2077 r sheet'

pub record SatellitesStored (c : Constellation) (yaw : ℕ) (payload : List ℕ) (n start : ℕ) (sheet sheet' : List ℕ) : Type 0 where
  pub end : ℕ
  pub entries : ℕ
  pub stores : (ms : List ℕ) → length ms ≡ n → Stores payload (each ms (ocb.satellite c yaw)) start 8 sheet end entries sheet'

-- with the satellite mask before them, from entry 6 on
pub record MaskedStored (c : Constellation) (yaw : ℕ) (payload : List ℕ) (pos : ℕ) (sheet sheet' : List ℕ) : Type 0 where
  pub end : ℕ
  pub entries : ℕ
  pub stores : Stores payload (λ k. satellite_mask c (λ numbers. each numbers (ocb.satellite c yaw) k)) pos 6 sheet end entries sheet'

-- the message behind SF008, whatever SF005 and SF010 are
abbrev pub ocb_behind : Constellation → (siou end_of_set yaw : ℕ) → (ocb.Ocb → Layout Message) → Layout Message
ocb_behind c siou end_of_set yaw k =
    field (sf 9) (λ datum.
    field (sf (ephemeris_sf c)) (λ ephemeris.
    satellite_mask c (λ numbers.
    each numbers (ocb.satellite c yaw) (λ satellites.
    k (record { siou = siou; end_of_set = end_of_set; datum = datum; ephemeris = ephemeris; satellites = satellites })))))

pub record BehindStored (c : Constellation) (yaw : ℕ) (payload sheet sheet' : List ℕ) : Type 0 where
  pub end : ℕ
  pub entries : ℕ
  pub stores : (siou end_of_set : ℕ) → Stores payload (ocb_behind c siou end_of_set yaw) 12 4 sheet end entries sheet'

-- the message
pub record OcbStored (c : Constellation) (payload sheet sheet' : List ℕ) : Type 0 where
  pub count : ℕ
  pub used : ℕ
  pub is : Finishes (run_l (ocb_layout c) (to_bits payload) 0 0 sheet) → run_l (ocb_layout c) (to_bits payload) 0 0 sheet ≡ finished count used sheet'
