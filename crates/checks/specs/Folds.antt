-- Serves proofs: what the steps of TF018 compute, on numbers whose bits are a message's. No contract of a public call cites these.
use Rattle.std.specs.Prelude.{◌≡◌, ℕ, ◌+◌, ◌*◌, ◌/◌, ◌%◌, ◌^◌, ◌≤◌, ◌<◌, List, [], ◌∷◌}
use Rattle.std.specs.Int.{w64, from_be_bytes}
use Rattle.std.specs.Int.Bits.{bit_xor}
use Rattle.std.specs.List.{flat_map}
use Rattle.bits.specs.Bits.{bits_of}
use Rattle.checks.specs.Crc.{crc_bits}
use Rattle.checks.specs.Steps.{shifts}

-- the register after the n low bits of x, from 0
unfoldable pub after : ℕ → ℕ → ℕ → ℕ → ℕ
after w poly n x = crc_bits w poly 0 (bits_of n x)

-- x moved up by so many bits each, all added, which is xor
unfoldable pub ups : List ℕ → ℕ → ℕ
ups [] x = 0
ups (e ∷ es) x = bit_xor (x * 2 ^ e) (ups es x)

-- a number and what f gives of each of others, all added
abbrev pub xors : (ℕ → ℕ) → List ℕ → ℕ → ℕ
xors f [] x = x
xors f (e ∷ es) x = xors f es (bit_xor x (f e))

-- x with what it leaves so many times the counts down
abbrev pub spread : ℕ → List ℕ → ℕ → ℕ
spread times es x = xors (λ e. x / 2 ^ (e * times)) es x

-- the bits of words of eight bytes, the first byte of each most significant
unfoldable pub word_bits : List (List ℕ) → List ℕ
word_bits words = flat_map (λ word. bits_of 64 (from_be_bytes w64 word)) words

-- 64 bits more behind a number of 128, whose upper half is moved up to where it leaves the same register
abbrev pub folded : List ℕ → ℕ → ℕ → ℕ
folded es number word = bit_xor (ups es (number / 2 ^ 64)) (number % 2 ^ 64 * 2 ^ 64 + word)

-- so many shifts each, all added
abbrev pub sums : ℕ → ℕ → List ℕ → ℕ → ℕ
sums w p [] r = 0
sums w p (e ∷ es) r = bit_xor (shifts w p e r) (sums w p es r)

-- all counts are at most 64
abbrev pub Near : List ℕ → Type 0
Near [] = Unit {0}
Near (e ∷ es) = (e ≤ 64) × Near es

-- a bit 128 places ahead leaves the register that these bits leave
pub record Rule (w p : ℕ) (es : List ℕ) : Type 0 where
  pub some : 1 ≤ w
  pub fits : p < 2 ^ w
  pub near : Near es
  pub same : shifts w p 128 (after w p 1 1) ≡ sums w p es (after w p 1 1)
