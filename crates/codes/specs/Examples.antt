-- Computed and proved: the tables of sizes against the numbers of document 01.
use Rattle.std.specs.Prelude.{◌≡◌, refl, List, [], ◌∷◌, ℕ}
use Rattle.codes.specs.declared.Constellation.{Constellation}
use Rattle.codes.specs.declared.Constellation.TheVariants.{Gps, Glonass, Galileo, BeiDou, Qzss}
use Rattle.codes.specs.Tables.{mask_sizes, mask_size, bias_mask_sizes, bias_size}

by-constellation : (Constellation → List ℕ) → List (List ℕ)
by-constellation f = f Gps ∷ f Glonass ∷ f Galileo ∷ f BeiDou ∷ f Qzss ∷ []

-- "Mask sizes for size codes 0 to 3: GPS 32, 44, 56, 64; GLONASS 24, 36, 48, 63; Galileo 36, 45, 54, 64; BeiDou 37, 46, 55, 64; QZSS 10, 40, 48, 64"
mask-sizes : by-constellation (λ c. mask_size c 0 ∷ mask_size c 1 ∷ mask_size c 2 ∷ mask_size c 3 ∷ [])
    ≡ (32 ∷ 44 ∷ 56 ∷ 64 ∷ []) ∷ (24 ∷ 36 ∷ 48 ∷ 63 ∷ []) ∷ (36 ∷ 45 ∷ 54 ∷ 64 ∷ []) ∷ (37 ∷ 46 ∷ 55 ∷ 64 ∷ []) ∷ (10 ∷ 40 ∷ 48 ∷ 64 ∷ []) ∷ []
unfolding by-constellation mask_size mask_sizes
mask-sizes = refl

-- "Bias masks: GPS, QZSS 6 or 11; GLONASS 5 or 9; Galileo, BeiDou 8 or 15"
bias-sizes : by-constellation (λ c. bias_size c 0 ∷ bias_size c 1 ∷ []) ≡ (6 ∷ 11 ∷ []) ∷ (5 ∷ 9 ∷ []) ∷ (8 ∷ 15 ∷ []) ∷ (8 ∷ 15 ∷ []) ∷ (6 ∷ 11 ∷ []) ∷ []
unfolding by-constellation bias_size bias_mask_sizes
bias-sizes = refl
