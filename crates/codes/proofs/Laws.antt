-- Laws that serve the proofs of the code, and are proved.
use Rattle.std.specs.Prelude.{◌≡◌, refl, [], ℕ, zero, suc, ◌-◌, ◌*◌, ◌/◌, ◌%◌, ◌^◌, ◌≤◌, ◌<◌, length, get_or, Option, Some, None, SomeIff, unwrap_or}
use Rattle.std.proofs.Common.{ap, sym, ◌∙◌, arith, pow_pos}
use Rattle.std.proofs.lemmas.Nat.Bits.{ones_shr}
use Rattle.std.proofs.lemmas.List.{get_or_default, get_or_past}
use Rattle.bits.specs.Laws.{one_shl}
use Rattle.codes.specs.declared.Constellation.{Constellation}
use Rattle.codes.specs.declared.Constellation.TheVariants.{Gps, Glonass, Galileo, BeiDou, Qzss}
use Rattle.codes.specs.contracts.Constellation.{the_type}
use denote.Enum.Declared.{tag_of}
use Rattle.codes.specs.Tables.{row_of, mask_sizes, mask_size, bias_mask_sizes, bias_size}
use Rattle.codes.specs.Sizes.{mask_word, bias-word}

-- ---- the tables of sizes

mask-row : (c : Constellation) → length (get_or mask_sizes (row_of c) []) ≡ 4
unfolding mask_sizes
mask-row Gps = refl
mask-row Glonass = refl
mask-row Galileo = refl
mask-row BeiDou = refl
mask-row Qzss = refl

bias-row : (c : Constellation) → length (get_or bias_mask_sizes (row_of c) []) ≡ 2
unfolding bias_mask_sizes
bias-row Gps = refl
bias-row Glonass = refl
bias-row Galileo = refl
bias-row BeiDou = refl
bias-row Qzss = refl

-- a constellation's number is its row
row-is : (c : Constellation) → tag_of the_type c ≡ row_of c
row-is Gps = refl
row-is Glonass = refl
row-is Galileo = refl
row-is BeiDou = refl
row-is Qzss = refl

pub mask-there : (c : Constellation) (size : ℕ) → size < 4 → get_or (get_or mask_sizes (tag_of the_type c) []) size 0 ≡ mask_size c size
unfolding mask_size
mask-there c size h = rw (row-is c) (get_or_default (get_or mask_sizes (row_of c) []) size 0 64 (omega (arith, mask-row c)))

pub bias-there : (c : Constellation) (size : ℕ) → size < 2 → get_or (get_or bias_mask_sizes (tag_of the_type c) []) size 0 ≡ bias_size c size
unfolding bias_size
bias-there c size h = rw (row-is c) (get_or_default (get_or bias_mask_sizes (row_of c) []) size 0 15 (omega (arith, bias-row c)))

pub mask-past : (c : Constellation) (size : ℕ) → 4 ≤ size → 64 ≡ mask_size c size
unfolding mask_size
mask-past c size h = sym (get_or_past (get_or mask_sizes (row_of c) []) size 64 (omega (arith, mask-row c)))

pub bias-past : (c : Constellation) (size : ℕ) → 2 ≤ size → 15 ≡ bias_size c size
unfolding bias_size
bias-past c size h = sym (get_or_past (get_or bias_mask_sizes (row_of c) []) size 15 (omega (arith, bias-row c)))

-- ---- the largest number of so many bits

pub ones-left : (width : ℕ) (moved : Option ℕ) (r : ℕ) → width ≤ 64 → SomeIff moved (64 - width < 64) (18446744073709551615 / 2 ^ (64 - width)) → r ≡ unwrap_or moved 0
    → r ≡ 2 ^ width - 1
ones-left zero None r h m e = e
ones-left (suc width) None r h m e = absurd (m (omega arith))
ones-left width (Some x) r h m e = e ∙ m.1 ∙ ones_shr 64 (64 - width) (omega arith) ∙ ap (λ n. 2 ^ n - 1) {x = 64 - (64 - width)} {y = width} (omega arith)

-- ---- `(1 << width) - 1`

pub shifted-some : (width : ℕ) → width < 64 → 1 ≤ 1 * 2 ^ width % 2 ^ 64
shifted-some width h = rw (one_shl width h) (pow_pos width)

pub shifted-top : (width : ℕ) → width < 64 → 1 * 2 ^ width % 2 ^ 64 - 1 ≡ 2 ^ width - 1
shifted-top width h = rw (one_shl width h)

pub all_ones : (width : ℕ) → width ≤ 64 → 64 ≤ width → 2 ^ 64 - 1 ≡ 2 ^ width - 1
all_ones width p q = ap (λ w. 2 ^ w - 1) {x = 64} {y = width} (omega arith)

-- ---- what goes by the constellation

pub mask_fits : (c : Constellation) (size width : ℕ) → width ≡ mask_size c size → width ≤ 64
mask_fits c size width e = omega (arith, (mask_word c size).most)

pub bias-fits : (c : Constellation) (size width : ℕ) → width ≡ bias_size c size → width ≤ 64
bias-fits c size width e = omega (arith, (bias-word c size).most)
