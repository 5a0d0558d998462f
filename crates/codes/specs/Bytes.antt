-- Serves readers, and is proved: the sizes of masks, a byte each in one number, that of size code 0 the last; and that they are those of Tables.antt.
use Rattle.std.specs.Prelude.{◌≡◌, refl, ℕ, zero, suc, ◌*◌, ◌/◌, ◌%◌, ◌^◌, ◌<◌}
use Rattle.std.proofs.Common.{ap, ◌∙◌, arith}
use Rattle.codes.specs.declared.Constellation.{Constellation}
use Rattle.codes.specs.declared.Constellation.TheVariants.{Gps, Glonass, Galileo, BeiDou, Qzss}
use Rattle.codes.specs.Tables.{mask_sizes, bias_mask_sizes, mask_size, bias_size}

abbrev pub mask_bytes : Constellation → ℕ
mask_bytes Gps = 0x40382C20
mask_bytes Glonass = 0x3F302418
mask_bytes Galileo = 0x40362D24
mask_bytes BeiDou = 0x40372E25
mask_bytes Qzss = 0x4030280A

abbrev pub bias_bytes : Constellation → ℕ
bias_bytes Gps = 0x0B06
bias_bytes Glonass = 0x0905
bias_bytes Galileo = 0x0F08
bias_bytes BeiDou = 0x0F08
bias_bytes Qzss = 0x0B06

mask_is : (c : Constellation) (size : ℕ) → size < 4 → mask_bytes c / 2 ^ (8 * size) % 256 ≡ mask_size c size
unfolding mask_size mask_sizes
mask_is Gps zero h = refl
mask_is Gps (suc zero) h = refl
mask_is Gps (suc (suc zero)) h = refl
mask_is Gps (suc (suc (suc zero))) h = refl
mask_is Glonass zero h = refl
mask_is Glonass (suc zero) h = refl
mask_is Glonass (suc (suc zero)) h = refl
mask_is Glonass (suc (suc (suc zero))) h = refl
mask_is Galileo zero h = refl
mask_is Galileo (suc zero) h = refl
mask_is Galileo (suc (suc zero)) h = refl
mask_is Galileo (suc (suc (suc zero))) h = refl
mask_is BeiDou zero h = refl
mask_is BeiDou (suc zero) h = refl
mask_is BeiDou (suc (suc zero)) h = refl
mask_is BeiDou (suc (suc (suc zero))) h = refl
mask_is Qzss zero h = refl
mask_is Qzss (suc zero) h = refl
mask_is Qzss (suc (suc zero)) h = refl
mask_is Qzss (suc (suc (suc zero))) h = refl
mask_is c (suc (suc (suc (suc n)))) h = absurd (omega arith)

pub mask-byte : (c : Constellation) (size sizes : ℕ) → sizes ≡ mask_bytes c → size < 4 → sizes / 2 ^ (8 * size) % 256 ≡ mask_size c size
mask-byte c size sizes e h = ap (λ (x : ℕ). x / 2 ^ (8 * size) % 256) e ∙ mask_is c size h

bias-is : (c : Constellation) (size : ℕ) → size < 2 → bias_bytes c / 2 ^ (8 * size) % 256 ≡ bias_size c size
unfolding bias_size bias_mask_sizes
bias-is Gps zero h = refl
bias-is Gps (suc zero) h = refl
bias-is Glonass zero h = refl
bias-is Glonass (suc zero) h = refl
bias-is Galileo zero h = refl
bias-is Galileo (suc zero) h = refl
bias-is BeiDou zero h = refl
bias-is BeiDou (suc zero) h = refl
bias-is Qzss zero h = refl
bias-is Qzss (suc zero) h = refl
bias-is c (suc (suc n)) h = absurd (omega arith)

pub bias-byte : (c : Constellation) (size sizes : ℕ) → sizes ≡ bias_bytes c → size < 2 → sizes / 2 ^ (8 * size) % 256 ≡ bias_size c size
bias-byte c size sizes e h = ap (λ (x : ℕ). x / 2 ^ (8 * size) % 256) e ∙ bias-is c size h
