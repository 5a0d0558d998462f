-- Serves readers, and is proved by computing: what the bits of an area say.
use Rattle.std.specs.Prelude.{◌≡◌, refl, ℕ, ◌+◌, ◌*◌, ◌^◌}
use Rattle.area.specs.Area.{sf032, rows, latitude_spacing, nodes}

-- area 5 with this reference latitude: 8 rows at 3.2 degrees, 8 columns at 3.2 degrees, in the middle of the longitudes
abbrev pub eight_rows : ℕ → ℕ
eight_rows latitude = ((((((5 * 2 ^ 11 + latitude) * 2 ^ 12 + 1800) * 2 ^ 3 + 7) * 2 ^ 3 + 7) * 2 ^ 5) + 31) * 2 ^ 5 + 31

pub shape : (rows (eight_rows 224) ≡ 8) × (latitude_spacing (eight_rows 224) ≡ 32) × (nodes (eight_rows 224) ≡ 64) × (sf032 (eight_rows 224) ≡ 224)
shape = (refl, refl, refl, refl)
