-- The answers of this crate, as its source names them.
use Rattle.std.specs.Prelude.{ℕ, Result, Option, Float}
use Rattle.answer.specs.declared.Fault.{Fault}
use Rattle.values.specs.declared.Orbit.{Orbit}
use Rattle.views.specs.declared.bpacarea.BpacArea.{BpacArea}
use Rattle.views.specs.declared.gadarea.GadArea.{GadArea}
use Rattle.views.specs.declared.hpacarea.HpacArea.{HpacArea}
use Rattle.views.specs.declared.places.Place.{Place}
use Rattle.views.specs.declared.satellites.Biases.{Biases}
use Rattle.views.specs.declared.satellites.Satellite.{Satellite}

abbrev pub BpacAnswer : Type 0
BpacAnswer = Result (Option BpacArea) Fault

abbrev pub GadAnswer : Type 0
GadAnswer = Result (Option GadArea) Fault

abbrev pub HpacAnswer : Type 0
HpacAnswer = Result (Option HpacArea) Fault

abbrev pub Found : Type 0
Found = Option Place

abbrev pub Opened : Type 0
Opened = Result Place Fault

abbrev pub OrbitBlock : Type 0
OrbitBlock = Option (ℕ × Orbit)

abbrev pub ClockBlock : Type 0
ClockBlock = Option (ℕ × Float × ℕ)

abbrev pub BiasBlock : Type 0
BiasBlock = Option Biases

abbrev pub SatelliteAnswer : Type 0
SatelliteAnswer = Result (ℕ × Satellite) Fault
