-- Definitions to believe: the view of a satellite in numbers and floats. What a block that is not there would say is written as 0.
use Rattle.std.specs.Prelude.{List, [], ◌∷◌, ℕ, Float, Ok, Err, Some, None}
use Rattle.values.specs.declared.Orbit.{Orbit}
use Rattle.values.specs.declared.Yaw.{Yaw}
use Rattle.values.specs.declared.Yaw.TheVariants as yaw
use Rattle.views.specs.Results.{OrbitBlock}
use Rattle.views.specs.Results.{ClockBlock}
use Rattle.views.specs.Results.{BiasBlock}
use Rattle.views.specs.declared.satellites.Biases.{Biases}
use Rattle.views.specs.declared.satellites.Blocks.{Blocks}
use Rattle.views.specs.declared.satellites.Satellite.{Satellite}
use Rattle.views.specs.declared.satellites.Satellite.TheVariants.{OutOfUse, InUse}
use Rattle.views.specs.Results.{SatelliteAnswer}
use Rattle.exportviews.specs.Views.{Told, refused_at, none}

-- fourteen numbers and five floats
abbrev pub satellite_room : ℕ
satellite_room = 14

abbrev pub satellite_floats : ℕ
satellite_floats = 5

-- ---- the orbit block: whether it is there, IODE, the three corrections in metres

abbrev pub has_orbit : OrbitBlock → ℕ
has_orbit None = 0
has_orbit (Some (iode, corrections)) = 1

abbrev pub iode_of : OrbitBlock → ℕ
iode_of None = 0
iode_of (Some (iode, corrections)) = iode

abbrev pub orbit_of : OrbitBlock → Orbit
orbit_of None = record { radial = none; along_track = none; cross_track = none }
orbit_of (Some (iode, corrections)) = corrections

-- ---- "its yaw is absent, invalid or an angle", numbered as the units of `homralgyu_value`: 6 absent, 0 invalid, 2 degrees

abbrev pub yaw_is : Yaw → ℕ
yaw_is yaw.Absent = 6
yaw_is yaw.Invalid = 0
yaw_is (yaw.Degrees x) = 2

abbrev pub yaw_of : Yaw → Float
yaw_of yaw.Absent = none
yaw_of yaw.Invalid = none
yaw_of (yaw.Degrees x) = x

-- ---- the clock block: whether it is there, SF022, the correction in metres, SF024

abbrev pub has_clock : ClockBlock → ℕ
has_clock None = 0
has_clock (Some (continuity, correction, error)) = 1

abbrev pub clock_continuity : ClockBlock → ℕ
clock_continuity None = 0
clock_continuity (Some (continuity, correction, error)) = continuity

abbrev pub clock_of : ClockBlock → Float
clock_of None = none
clock_of (Some (continuity, correction, error)) = correction

abbrev pub clock_error : ClockBlock → ℕ
clock_error None = 0
clock_error (Some (continuity, correction, error)) = error

-- ---- the bias block: whether it is there, and where its biases are on the sheet

abbrev pub has_biases : BiasBlock → ℕ
has_biases None = 0
has_biases (Some biases) = 1

abbrev pub biases_of : BiasBlock → Biases
biases_of None = record { phases_at = 0; phases = 0; codes_at = 0; codes = 0 }
biases_of (Some biases) = biases

-- ---- the satellite: its number, and 0 out of use, or 1, SF015 and the blocks

unfoldable pub blocks_numbers : ℕ → Blocks → List ℕ
blocks_numbers number b =
    number
    ∷ 1
    ∷ b.continuity
    ∷ has_orbit b.orbit
    ∷ iode_of b.orbit
    ∷ yaw_is b.yaw
    ∷ has_clock b.clock
    ∷ clock_continuity b.clock
    ∷ clock_error b.clock
    ∷ has_biases b.bias
    ∷ (biases_of b.bias).phases_at
    ∷ (biases_of b.bias).phases
    ∷ (biases_of b.bias).codes_at
    ∷ (biases_of b.bias).codes
    ∷ []

-- radial, along-track, cross-track, the yaw's angle, the clock correction
unfoldable pub blocks_floats : Blocks → List Float
blocks_floats b =
    (orbit_of b.orbit).radial
    ∷ (orbit_of b.orbit).along_track
    ∷ (orbit_of b.orbit).cross_track
    ∷ yaw_of b.yaw
    ∷ clock_of b.clock
    ∷ []

unfoldable pub use_numbers : ℕ → Satellite → List ℕ
use_numbers number OutOfUse = number ∷ 0 ∷ []
use_numbers number (InUse blocks) = blocks_numbers number blocks

unfoldable pub use_floats : Satellite → List Float
use_floats OutOfUse = []
use_floats (InUse blocks) = blocks_floats blocks

unfoldable pub told_satellite : SatelliteAnswer → Told
told_satellite (Ok (number, satellite)) = record { number = 0; numbers = use_numbers number satellite; floats = use_floats satellite }
told_satellite (Err fault) = refused_at fault
