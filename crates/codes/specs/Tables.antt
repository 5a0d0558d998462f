-- Definitions to believe: what goes by the constellation (document 01, "Codes"; document 000, table 6.2).
use Rattle.std.specs.Prelude.{List, [], ◌∷◌, ℕ, get_or}
use Rattle.codes.specs.declared.Constellation.{Constellation}
use Rattle.codes.specs.declared.Constellation.TheVariants.{Gps, Glonass, Galileo, BeiDou, Qzss}

-- the row of a constellation in a table: its subtype
abbrev pub row_of : Constellation → ℕ
row_of Gps = 0
row_of Glonass = 1
row_of Galileo = 2
row_of BeiDou = 3
row_of Qzss = 4

-- "Mask sizes for size codes 0 to 3"
unfoldable pub mask_sizes : List (List ℕ)
mask_sizes =
    (32 ∷ 44 ∷ 56 ∷ 64 ∷ [])
    ∷ (24 ∷ 36 ∷ 48 ∷ 63 ∷ [])
    ∷ (36 ∷ 45 ∷ 54 ∷ 64 ∷ [])
    ∷ (37 ∷ 46 ∷ 55 ∷ 64 ∷ [])
    ∷ (10 ∷ 40 ∷ 48 ∷ 64 ∷ [])
    ∷ []

-- "Bias masks"
unfoldable pub bias_mask_sizes : List (List ℕ)
bias_mask_sizes = (6 ∷ 11 ∷ []) ∷ (5 ∷ 9 ∷ []) ∷ (8 ∷ 15 ∷ []) ∷ (8 ∷ 15 ∷ []) ∷ (6 ∷ 11 ∷ []) ∷ []

-- the bits of a satellite mask; the size code has 2 bits, so none is above 3
unfoldable pub mask_size : Constellation → ℕ → ℕ
mask_size constellation size = get_or (get_or mask_sizes (row_of constellation) []) size 64

-- the bits of a bias mask; the size code has 1 bit
unfoldable pub bias_size : Constellation → ℕ → ℕ
bias_size constellation size = get_or (get_or bias_mask_sizes (row_of constellation) []) size 15

-- "Satellite number: position + 1, QZSS position + 193": the number of position 0
abbrev pub first_satellite : Constellation → ℕ
first_satellite Gps = 1
first_satellite Glonass = 1
first_satellite Galileo = 1
first_satellite BeiDou = 1
first_satellite Qzss = 193

-- the field number of the satellite mask
abbrev pub mask_sf : Constellation → ℕ
mask_sf Gps = 11
mask_sf Glonass = 12
mask_sf Galileo = 93
mask_sf BeiDou = 94
mask_sf Qzss = 95
