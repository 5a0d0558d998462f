-- Serves proofs, and is proved by computing: where each polynomial of TF018 lets a bit 128 places ahead be moved, and what its start leaves.
use Rattle.std.specs.Prelude.{◌≡◌, ◌≤◌, refl, [], ◌∷◌}
use Rattle.std.proofs.Common.{arith}
use Rattle.bits.specs.Bits.{bits_of}
use Rattle.checks.specs.Crc.{shift, crc_bits}
use Rattle.checks.specs.Steps.{shifts}
use Rattle.checks.specs.Folds.{after, Rule}

pub narrow_8 : 8 ≤ 64
narrow_8 = omega arith

pub rule_8 : Rule 8 0x07 (1 ∷ [])
unfolding after crc_bits bits_of shift shifts
rule_8 = record { some = omega arith; fits = omega arith; near = (omega arith, tt); same = refl }

-- the start leaves 0
pub start_8 : after 8 0x07 128 0 ≡ 0
unfolding after crc_bits bits_of shift
start_8 = refl

pub narrow_16 : 16 ≤ 64
narrow_16 = omega arith

pub rule_16 : Rule 16 0x1021 (25 ∷ 26 ∷ 52 ∷ [])
unfolding after crc_bits bits_of shift shifts
rule_16 = record { some = omega arith; fits = omega arith; near = (omega arith, (omega arith, (omega arith, tt))); same = refl }

-- the start leaves 0
pub start_16 : after 16 0x1021 128 0 ≡ 0
unfolding after crc_bits bits_of shift
start_16 = refl

pub narrow_24 : 24 ≤ 64
narrow_24 = omega arith

pub rule_24 : Rule 24 0x864CFB (32 ∷ 43 ∷ 49 ∷ 57 ∷ 59 ∷ [])
unfolding after crc_bits bits_of shift shifts
rule_24 = record { some = omega arith; fits = omega arith; near = (omega arith, (omega arith, (omega arith, (omega arith, (omega arith, tt))))); same = refl }

-- the start leaves 0
pub start_24 : after 24 0x864CFB 128 0 ≡ 0
unfolding after crc_bits bits_of shift
start_24 = refl

pub narrow_32 : 32 ≤ 64
narrow_32 = omega arith

pub rule_32 : Rule 32 0x04C11DB7 (1 ∷ 9 ∷ 11 ∷ 30 ∷ 35 ∷ 39 ∷ 46 ∷ 63 ∷ [])
unfolding after crc_bits bits_of shift shifts
rule_32 = record { some = omega arith; fits = omega arith; near = (omega arith, (omega arith, (omega arith, (omega arith, (omega arith, (omega arith, (omega arith, (omega arith, tt)))))))); same = refl }

-- a start that leaves all ones
pub start_32 : after 32 0x04C11DB7 128 0x46AF6449 ≡ 0xFFFFFFFF
unfolding after crc_bits bits_of shift
start_32 = refl
