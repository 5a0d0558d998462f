-- Serves proofs, and is proved: the laws of the two checks for the layers above. How wide each is, and that TF006 does not look at the
-- four bits where it stands.
use Rattle.std.specs.Prelude.{◌≡◌, List, [], ◌∷◌, ◌++◌, ℕ, zero, suc, ◌+◌, ◌*◌, ◌/◌, ◌%◌, ◌^◌, ◌≤◌, ◌<◌}
use Rattle.std.proofs.Common.{ap, mod-lt, arith}
use Rattle.std.proofs.lemmas.Nat.{xor_lt}
use Rattle.bits.specs.Bits.{bits_of, to_bits, number}
use Rattle.checks.specs.Crc.{crc_bits, crc, low_first, reversed4, frame_crc, message_crc}
use Rattle.checks.specs.Steps.{crc_byte}
use Rattle.checks.specs.Register.{bits-append, bits-byte, byte-lt}

-- a check of w bits is below 2 ^ w, over any list: of a number over 255 in it the eight low bits count
pub crc-lt : (w p r : ℕ) (s : List ℕ) → 8 ≤ w → p < 2 ^ w → r < 2 ^ w → crc w p r s < 2 ^ w
unfolding crc to_bits crc_bits
crc-lt w p r [] h hp hr = hr
crc-lt w p r (b ∷ s) h hp hr =
    rw (bits-append w p r (bits_of 8 b) (to_bits s), bits-byte w p r b h hp hr)
    (crc-lt w p (crc_byte w p r (b % 256)) s h hp (byte-lt w p h hp r (b % 256) hr (mod-lt b (omega arith))))

-- TF018 has 1 to 4 bytes, by TF005
pub message_crc-lt : (k : ℕ) (s : List ℕ) → k ≤ 3 → message_crc k s < 2 ^ (8 * (k + 1))
unfolding message_crc
message_crc-lt zero s h = crc-lt 8 0x07 0 s (omega arith) (omega arith) (omega arith)
message_crc-lt (suc zero) s h = crc-lt 16 0x1021 0 s (omega arith) (omega arith) (omega arith)
message_crc-lt (suc (suc zero)) s h = crc-lt 24 0x864CFB 0 s (omega arith) (omega arith) (omega arith)
message_crc-lt (suc (suc (suc zero))) s h =
    xor_lt 32 (crc 32 0x04C11DB7 0xFFFFFFFF s) 0xFFFFFFFF (crc-lt 32 0x04C11DB7 0xFFFFFFFF s (omega arith) (omega arith) (omega arith)) (omega arith)
message_crc-lt (suc (suc (suc (suc k)))) s h = absurd (omega arith)

pub reversed4-lt : (n : ℕ) → reversed4 n < 16
unfolding reversed4 bits_of number
reversed4-lt n = omega arith

-- TF006 has 4 bits
pub frame_crc-lt : (a b c : ℕ) → frame_crc a b c < 16
unfolding frame_crc
frame_crc-lt a b c = reversed4-lt _

-- what stands in the place of TF006 does not count
pub frame_crc-high : (a b c t : ℕ) → t < 16 → frame_crc a b (c / 16 * 16 + t) ≡ frame_crc a b c
unfolding frame_crc
frame_crc-high a b c t h = ap (λ (x : ℕ). reversed4 (crc_bits 4 9 0 (low_first a ++ (low_first b ++ low_first (x * 16))))) (omega arith)
