-- Definitions to believe: field numbers that go by the constellation (document 01, "Payloads"; document 000, table 6.2).
use Rattle.std.specs.Prelude.{ℕ}
use Rattle.codes.specs.declared.Constellation.{Constellation}
use Rattle.codes.specs.declared.Constellation.TheVariants.{Gps, Glonass, Galileo, BeiDou, Qzss}

-- the ephemeris type
abbrev pub ephemeris_sf : Constellation → ℕ
ephemeris_sf Gps = 16
ephemeris_sf Glonass = 17
ephemeris_sf Galileo = 96
ephemeris_sf BeiDou = 97
ephemeris_sf Qzss = 98

-- the issue of data of the ephemeris
abbrev pub iode_sf : Constellation → ℕ
iode_sf Gps = 18
iode_sf Glonass = 19
iode_sf Galileo = 99
iode_sf BeiDou = 100
iode_sf Qzss = 101

-- the phase bias mask
abbrev pub phase_sf : Constellation → ℕ
phase_sf Gps = 25
phase_sf Glonass = 26
phase_sf Galileo = 102
phase_sf BeiDou = 103
phase_sf Qzss = 104

-- the code bias mask
abbrev pub code_sf : Constellation → ℕ
code_sf Gps = 27
code_sf Glonass = 28
code_sf Galileo = 105
code_sf BeiDou = 106
code_sf Qzss = 107
