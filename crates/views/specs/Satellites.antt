-- Definitions to believe: a satellite of an OCB sheet by its place in the mask's order (document 01, "Payloads": "a satellite is either out of use or carries
-- blocks, and its yaw is absent, invalid or an angle"; document 000, tables 6.4 to 6.12).
use Rattle.std.specs.Prelude.{List, [], ◌∷◌, ℕ, zero, suc, ◌+◌, ◌*◌, length, Ok, Err, Some, None}
use Rattle.answer.specs.Number.{number_of}
use Rattle.answer.specs.Place.{nowhere}
use Rattle.answer.specs.declared.Refusal.TheVariants as refusal
use Rattle.codes.specs.declared.Constellation.{Constellation}
use Rattle.layout.specs.Layout.{done}
use Rattle.layout.specs.Parts.{Part, absent, present}
use Rattle.layout.specs.Record.{record_of}
use Rattle.message.specs.Messages.{constellation_of}
use Rattle.ocb.specs.Ocb as ocb
use Rattle.sheet.specs.Sheet.{judged_sheet}
use Rattle.values.specs.declared.Yaw.{Yaw}
use Rattle.values.specs.declared.Yaw.TheVariants as yaw
use Rattle.views.specs.Entries.{entries_of}
use Rattle.views.specs.Judged.{if_taken, for_constellation}
use Rattle.views.specs.Units.{in_unit, yaw_in}
use Rattle.views.specs.Results.{OrbitBlock}
use Rattle.views.specs.Results.{ClockBlock}
use Rattle.views.specs.Results.{BiasBlock}
use Rattle.views.specs.declared.satellites.Biases.{Biases}
use Rattle.views.specs.declared.satellites.Blocks.{Blocks}
use Rattle.views.specs.declared.satellites.Satellite.{Satellite}
use Rattle.views.specs.declared.satellites.Satellite.TheVariants.{OutOfUse, InUse}
use Rattle.views.specs.Results.{SatelliteAnswer}

-- ---- how many entries of the sheet a block has, one a field

-- table 6.5: IODE, three corrections, the yaw if it is there
abbrev pub orbit_entries : ocb.Orbit → ℕ
orbit_entries o = 4 + entries_of (λ c. 1) o.yaw

-- table 6.6
abbrev pub clock_entries : ocb.Clock → ℕ
clock_entries c = 3

-- tables 6.7 to 6.12: two masks of two entries, three entries a phase bias, one a code bias
abbrev pub bias_entries : ocb.Bias → ℕ
bias_entries b = 4 + (3 * length b.phases + length b.codes)

-- table 6.4: SF013; in use SF014, SF015 and the blocks
abbrev pub state_entries : ocb.Use → ℕ
state_entries ocb.out_of_use = 1
state_entries (ocb.in_use b) = 3 + (entries_of orbit_entries b.orbit + (entries_of clock_entries b.clock + entries_of bias_entries b.bias))

-- ---- the views of the blocks

-- "The three orbit corrections are handed out together in metres", SF020
abbrev pub orbit_view : Part ocb.Orbit → OrbitBlock
orbit_view absent = None
orbit_view (present o) =
    Some (o.iode, record { radial = in_unit 20 o.radial; along_track = in_unit 20 o.along; cross_track = in_unit 20 o.cross })

abbrev pub yaw_code : Part ℕ → Yaw
yaw_code absent = yaw.Absent
yaw_code (present code) = yaw_in code

-- absent where SF008 is 0 or the satellite has no orbit block
abbrev pub yaw_view : Part ocb.Orbit → Yaw
yaw_view absent = yaw.Absent
yaw_view (present o) = yaw_code o.yaw

-- SF022, SF020 in metres, SF024
abbrev pub clock_view : Part ocb.Clock → ClockBlock
clock_view absent = None
clock_view (present c) = Some (c.continuity, in_unit 20 c.correction, c.error)

-- "the biases stay on the sheet": where they start, behind the size and the bits of their mask, and how many there are
abbrev pub bias_places : (start : ℕ) → ocb.Bias → Biases
bias_places start b =
    let phases : ℕ = length b.phases in
    record { phases_at = start + 2; phases = phases; codes_at = start + (4 + 3 * phases); codes = length b.codes }

abbrev pub bias_view : (start : ℕ) → Part ocb.Bias → BiasBlock
bias_view start absent = None
bias_view start (present b) = Some (bias_places start b)

-- of a satellite that starts at this entry of the sheet
abbrev pub blocks_view : (start : ℕ) → ocb.Blocks → Blocks
blocks_view start b =
    record {
      continuity = b.continuity;
      orbit = orbit_view b.orbit;
      yaw = yaw_view b.orbit;
      clock = clock_view b.clock;
      bias = bias_view (start + (3 + (entries_of orbit_entries b.orbit + entries_of clock_entries b.clock))) b.bias;
    }

abbrev pub satellite_view : (start : ℕ) → ocb.Use → Satellite
satellite_view start ocb.out_of_use = OutOfUse
satellite_view start (ocb.in_use b) = InUse (blocks_view start b)

-- ---- the satellite at a place; a place past the last satellite is FIELD, an argument outside its range, without a place of its own

-- the satellites follow one another on the sheet from `start` on
unfoldable pub nth_from : (start : ℕ) → List ocb.Satellite → (place : ℕ) → SatelliteAnswer
nth_from start [] place = Err (nowhere refusal.Field)
nth_from start (s ∷ ss) zero = Ok (s.number, satellite_view start s.state)
nth_from start (s ∷ ss) (suc place) = nth_from (start + state_entries s.state) ss place

-- the satellites of a sheet
abbrev pub satellites_in : Constellation → List ℕ → List ocb.Satellite
satellites_in constellation sheet = (record_of (ocb.ocb constellation done) sheet).satellites

-- a header of eight entries, then the satellites
abbrev pub nth : Constellation → List ℕ → (place : ℕ) → SatelliteAnswer
nth constellation sheet place = nth_from 8 (satellites_in constellation sheet) place

-- what `satellite_at` answers
unfoldable pub satellite_answer_of : (subtype : ℕ) (sheet : List ℕ) (place : ℕ) → SatelliteAnswer
satellite_answer_of subtype sheet place =
    if_taken (judged_sheet 0 subtype sheet) Err (
    for_constellation (constellation_of subtype) (Err (nowhere refusal.UnknownType)) (λ constellation.
    nth constellation sheet place))
