-- Serves proofs: what the code's steps compute. No contract of a public call cites these.
use Rattle.std.specs.Prelude.{ℕ, zero, suc, ◌-◌, ◌*◌, ◌^◌, List, reverse}
use Rattle.std.specs.Int.Bits.{bit_xor}
use Rattle.bits.specs.Bits.{bits_of}
use Rattle.checks.specs.Crc.{shift, crc_bits, low_first, reversed4}

-- n shifts
unfoldable pub shifts : ℕ → ℕ → ℕ → ℕ → ℕ
shifts w poly zero reg = reg
shifts w poly (suc n) reg = shifts w poly n (shift w poly reg)

-- a byte is added at the top of the register, and the register is shifted eight times
unfoldable pub crc_byte : ℕ → ℕ → ℕ → ℕ → ℕ
crc_byte w poly reg b = shifts w poly 8 (bit_xor reg (b * 2 ^ (w - 8)))

-- four bits, the least significant first
unfoldable pub half_first : ℕ → List ℕ
half_first n = reverse (bits_of 4 n)

-- TF006's register, its bits in reverse, after four bits and after a byte
unfoldable pub frame_half : ℕ → ℕ → ℕ
frame_half reg n = reversed4 (crc_bits 4 0x9 (reversed4 reg) (half_first n))

unfoldable pub frame_byte : ℕ → ℕ → ℕ
frame_byte reg b = reversed4 (crc_bits 4 0x9 (reversed4 reg) (low_first b))
