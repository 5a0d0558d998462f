-- Serves readers, and is proved by computing: the definitions at the bytes 1010_0101 and 0011_1100.
use Rattle.std.specs.Prelude.{false, ◌≡◌, refl, List, [], ◌∷◌, ℕ}
use Rattle.bits.specs.Bits.{bits_of, to_bits, number, field, there, got, leaves}

abbrev bytes : List ℕ
bytes = 0xA5 ∷ 0x3C ∷ []

-- the eight bits from bit 4 on are 0101_0011
pub across-bytes : field bytes 4 8 ≡ 0x53
unfolding field number to_bits bits_of
across-bytes = refl

-- nine bits from bit 8 on are not there
pub past_the_end : got bytes 8 9 ≡ 0
past_the_end = refl

-- nor are 65 bits anywhere
pub too_wide : there bytes 0 65 ≡ false
too_wide = refl

-- of the code 0x1FE the eight low bits, 1111_1110, take the place of those from bit 4 on
pub put-across : leaves bytes 4 8 0x1FE ≡ to_bits (0xAF ∷ 0xEC ∷ [])
unfolding to_bits bits_of
put-across = refl
