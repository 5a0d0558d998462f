-- Two results of a public call of this crate cannot differ: for equal inputs, answers and lent buffers that meet the contract are equal. Proved.
-- Written by tests/determined from the contracts in src/.
use Rattle.codes.specs.Fields.{listed, mask_field, satellite_at, satellites_of, to_come}
use Rattle.codes.specs.Stepping.{aligned_to, without_first}
use Rattle.codes.specs.Tables.{bias_size, first_satellite, mask_sf, mask_size}
use Rattle.codes.specs.Yields.{yields-determined}
use Rattle.codes.specs.declared.Constellation.{Constellation}
use Rattle.codes.specs.declared.satellites.InMask.{InMask}
use Rattle.codes.specs.declared.satellites.Satellites.{Satellites}
use Rattle.codes.specs.declared.satellites.Step.{Step}
use Rattle.fields.specs.Fields.{sf}
use Rattle.layout.specs.Parts.{free}
use Rattle.layout.specs.declared.Field.{Field}
use Rattle.std.proofs.Common.{sym, ◌∙◌}
use Rattle.std.specs.Int.Count.{count_leading_zeros, ones}
use Rattle.std.specs.Iterator.{YieldsFirst}
use Rattle.std.specs.Prelude.{Option, length, ℕ, ◌%◌, ◌+◌, ◌≡◌}

pub in-mask-determined : (constellation : Constellation) (size mask : ℕ) (r₁ r₂ : InMask)
    → r₁ ≡ record { constellation = constellation; left = aligned_to (mask_size constellation size) mask }
    → r₂ ≡ record { constellation = constellation; left = aligned_to (mask_size constellation size) mask }
    → r₁ ≡ r₂
in-mask-determined constellation size mask r₁ r₂ e0₁ e0₂ = e0₁ ∙ sym e0₂

pub satellites-of-determined : (constellation : Constellation) (size mask : ℕ) (r₁ r₂ : Satellites)
    → r₁ ≡ listed (satellites_of constellation size mask)
    → r₂ ≡ listed (satellites_of constellation size mask)
    → r₁ ≡ r₂
satellites-of-determined constellation size mask r₁ r₂ e0₁ e0₂ = e0₁ ∙ sym e0₂

pub satellite-count-determined : (constellation : Constellation) (size mask : ℕ) (r₁ r₂ : ℕ)
    → r₁ ≡ length (satellites_of constellation size mask)
    → r₂ ≡ length (satellites_of constellation size mask)
    → r₁ ≡ r₂
satellite-count-determined constellation size mask r₁ r₂ e0₁ e0₂ = e0₁ ∙ sym e0₂

pub satellite-number-determined : (constellation : Constellation) (size mask more : ℕ) (r₁ r₂ : ℕ)
    → r₁ ≡ satellite_at (satellites_of constellation size mask) more
    → r₂ ≡ satellite_at (satellites_of constellation size mask) more
    → r₁ ≡ r₂
satellite-number-determined constellation size mask more r₁ r₂ e0₁ e0₂ = e0₁ ∙ sym e0₂

pub aligned-determined : (constellation : Constellation) (size mask : ℕ) (r₁ r₂ : ℕ)
    → r₁ ≡ aligned_to (mask_size constellation size) mask
    → r₂ ≡ aligned_to (mask_size constellation size) mask
    → r₁ ≡ r₂
aligned-determined constellation size mask r₁ r₂ e0₁ e0₂ = e0₁ ∙ sym e0₂

pub next-set-determined : (left : ℕ) (r₁ r₂ : Step)
    → r₁ ≡ record { position = count_leading_zeros 64 left; left = without_first left }
    → r₂ ≡ record { position = count_leading_zeros 64 left; left = without_first left }
    → r₁ ≡ r₂
next-set-determined left r₁ r₂ e0₁ e0₂ = e0₁ ∙ sym e0₂

pub set-bits-determined : (mask : ℕ) (r₁ r₂ : ℕ)
    → r₁ ≡ ones mask
    → r₂ ≡ ones mask
    → r₁ ≡ r₂
set-bits-determined mask r₁ r₂ e0₁ e0₂ = e0₁ ∙ sym e0₂

pub in-mask-next-determined : (self : InMask) (r₁ r₂ : Option ℕ) (self₁ self₂ : InMask)
    → YieldsFirst to_come self r₁ self₁
    → YieldsFirst to_come self r₂ self₂
    → (r₁ ≡ r₂) × (to_come self₁ ≡ to_come self₂)
in-mask-next-determined self r₁ r₂ self₁ self₂ e0₁ e0₂ = ((yields-determined to_come self self₁ self₂ r₁ r₂ e0₁ e0₂).0, (yields-determined to_come self self₁ self₂ r₁ r₂ e0₁ e0₂).1)

pub mask-size-determined : (constellation : Constellation) (size : ℕ) (r₁ r₂ : ℕ)
    → r₁ ≡ mask_size constellation size
    → r₂ ≡ mask_size constellation size
    → r₁ ≡ r₂
mask-size-determined constellation size r₁ r₂ e0₁ e0₂ = e0₁ ∙ sym e0₂

pub bias-size-determined : (constellation : Constellation) (size : ℕ) (r₁ r₂ : ℕ)
    → r₁ ≡ bias_size constellation size
    → r₂ ≡ bias_size constellation size
    → r₁ ≡ r₂
bias-size-determined constellation size r₁ r₂ e0₁ e0₂ = e0₁ ∙ sym e0₂

pub first-satellite-determined : (constellation : Constellation) (r₁ r₂ : ℕ)
    → r₁ ≡ first_satellite constellation
    → r₂ ≡ first_satellite constellation
    → r₁ ≡ r₂
first-satellite-determined constellation r₁ r₂ e0₁ e0₂ = e0₁ ∙ sym e0₂

pub mask-size-field-determined : (constellation : Constellation) (r₁ r₂ : Field)
    → r₁ ≡ sf (mask_sf constellation)
    → r₂ ≡ sf (mask_sf constellation)
    → r₁ ≡ r₂
mask-size-field-determined constellation r₁ r₂ e0₁ e0₂ = e0₁ ∙ sym e0₂

pub mask-field-determined : (constellation : Constellation) (size : ℕ) (r₁ r₂ : Field)
    → r₁ ≡ mask_field (mask_sf constellation) (mask_size constellation size)
    → r₂ ≡ mask_field (mask_sf constellation) (mask_size constellation size)
    → r₁ ≡ r₂
mask-field-determined constellation size r₁ r₂ e0₁ e0₂ = e0₁ ∙ sym e0₂

pub bias-field-determined : (sf : ℕ) (constellation : Constellation) (size : ℕ) (r₁ r₂ : Field)
    → r₁ ≡ free sf (bias_size constellation size)
    → r₂ ≡ free sf (bias_size constellation size)
    → r₁ ≡ r₂
bias-field-determined sf constellation size r₁ r₂ e0₁ e0₂ = e0₁ ∙ sym e0₂

pub last-group-field-determined : (sf last : ℕ) (r₁ r₂ : Field)
    → r₁ ≡ free sf (last % 64 + 1)
    → r₂ ≡ free sf (last % 64 + 1)
    → r₁ ≡ r₂
last-group-field-determined sf last r₁ r₂ e0₁ e0₂ = e0₁ ∙ sym e0₂
