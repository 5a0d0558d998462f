-- Definitions to believe: the satellite mask (document 01, "Codes").
use Rattle.std.specs.Prelude.{List, [], ◌∷◌, ◌++◌, ℕ, zero, suc, ◌-◌, ◌/◌, ◌%◌, ◌^◌, eqb, ltb, length, get_or, replicate}
use Rattle.answer.specs.declared.Refusal.TheVariants as refusal
use Rattle.layout.specs.declared.Field.{Field}
use Rattle.layout.specs.Layout.{Layout, field, pick}
use Rattle.fields.specs.Fields.{sf}
use Rattle.codes.specs.declared.Constellation.{Constellation}
use Rattle.codes.specs.declared.satellites.InMask.{InMask}
use Rattle.codes.specs.declared.satellites.Satellites.{Satellites}
use Rattle.codes.specs.Tables.{mask_sf, mask_size, first_satellite}

-- the bits of a satellite mask: MASK_EMPTY without a satellite
abbrev pub mask_field : (number width : ℕ) → Field
mask_field number width =
    record {
      sf = number;
      width = width;
      least = 1;
      most = 2 ^ width - 1;
      extra = 2 ^ width - 1;
      except = 2 ^ width - 1;
      under = refusal.MaskEmpty;
      over = refusal.Field;
    }

-- ---- the satellite mask: its size, its bits, the satellites in mask order

-- the numbers of the set bits among the low bits of a mask, the leftmost of them numbered `first`
unfoldable pub numbered : (first width mask : ℕ) → List ℕ
numbered first zero mask = []
numbered first (suc width) mask =
    pick (eqb (mask / 2 ^ width % 2) 1) (first ∷ numbered (suc first) width mask) (numbered (suc first) width mask)

abbrev pub satellites_of : Constellation → ℕ → ℕ → List ℕ
satellites_of constellation size mask = numbered (first_satellite constellation) (mask_size constellation size) mask

abbrev pub satellite_mask : {A : Type 0} → Constellation → (List ℕ → Layout A) → Layout A
satellite_mask constellation k =
    field (sf (mask_sf constellation)) (λ size.
    field (mask_field (mask_sf constellation) (mask_size constellation size)) (λ mask.
    k (satellites_of constellation size mask)))

-- ---- the satellites of a mask as the code hands them out

-- a list of numbers in the code's array: how many, and zeros after them
abbrev pub listed : List ℕ → Satellites
listed ms = record { count = length ms; numbers = ms ++ replicate (64 - length ms) 0 }

-- the satellites that are still to come: the set bits of what is left of the mask, which stands at the top of 64 bits
abbrev pub to_come : InMask → List ℕ
to_come s = numbered (first_satellite s.constellation) 64 s.left

-- the element that has so many after it, 0 if there is none
abbrev pub satellite_at : List ℕ → ℕ → ℕ
satellite_at ms more = pick (ltb more (length ms)) (get_or ms (length ms - 1 - more) 0) 0
