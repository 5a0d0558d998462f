-- Definitions to believe: document 01, "The frame", first paragraph. The fields of a frame by position and width, and the sizes of its parts.
use Rattle.std.specs.Prelude.{List, Bool, cond, ◌&&◌, ℕ, zero, suc, ◌+◌, ◌*◌, ltb, eqb}
use Rattle.bits.specs.Bits.{field}

-- "Preamble 0x73; TF002 type 7; TF003 payload bytes 10; TF004 encrypted 1; TF005 check type 2; TF006 4: four bytes."
abbrev pub preamble : ℕ
preamble = 0x73

abbrev pub tf002 : List ℕ → ℕ
tf002 s = field s 8 7

abbrev pub tf003 : List ℕ → ℕ
tf003 s = field s 15 10

abbrev pub tf004 : List ℕ → ℕ
tf004 s = field s 25 1

abbrev pub tf005 : List ℕ → ℕ
tf005 s = field s 26 2

abbrev pub tf006 : List ℕ → ℕ
tf006 s = field s 28 4

-- "Then TF007 subtype 4, TF008 tag kind 1, TF009 tag 16 (kind 0) or 32 (kind 1), TF010 solution 7, TF011 processor 4,"
abbrev pub tf007 : List ℕ → ℕ
tf007 s = field s 32 4

abbrev pub tf008 : List ℕ → ℕ
tf008 s = field s 36 1

abbrev pub tag_bits : ℕ → ℕ
tag_bits kind = 16 + 16 * kind

abbrev pub tf009 : List ℕ → ℕ
tf009 s = field s 37 (tag_bits (tf008 s))

abbrev pub tf010 : List ℕ → ℕ
tf010 s = field s (37 + tag_bits (tf008 s)) 7

abbrev pub tf011 : List ℕ → ℕ
tf011 s = field s (44 + tag_bits (tf008 s)) 4

-- "and with TF004 set TF012 4, TF013 6, TF014 3, TF015 3:"
abbrev pub tf012 : List ℕ → ℕ
tf012 s = field s (48 + tag_bits (tf008 s)) 4

abbrev pub tf013 : List ℕ → ℕ
tf013 s = field s (52 + tag_bits (tf008 s)) 6

abbrev pub tf014 : List ℕ → ℕ
tf014 s = field s (58 + tag_bits (tf008 s)) 3

abbrev pub tf015 : List ℕ → ℕ
tf015 s = field s (61 + tag_bits (tf008 s)) 3

-- "4, 6 or 8 bytes."
abbrev pub description_bytes : ℕ → ℕ → ℕ
description_bytes kind sealed = 4 + 2 * kind + 2 * sealed

abbrev pub payload_at : List ℕ → ℕ
payload_at s = 4 + description_bytes (tf008 s) (tf004 s)

-- "Then payload, authentication (only with TF004 set and TF014 over 1: 8, 12, 16, 32 or 64 bytes for TF015 0 to 4),"
unfoldable pub authenticated : List ℕ → Bool
authenticated s = eqb (tf004 s) 1 && ltb 1 (tf014 s)

unfoldable pub authentication_bytes : ℕ → ℕ
authentication_bytes zero = 8
authentication_bytes (suc zero) = 12
authentication_bytes (suc (suc zero)) = 16
authentication_bytes (suc (suc (suc zero))) = 32
authentication_bytes (suc (suc (suc (suc n)))) = 64

unfoldable pub authentication : List ℕ → ℕ
authentication s = cond (authenticated s) (authentication_bytes (tf015 s)) 0

-- "and check of 1 to 4 bytes."
abbrev pub check_bytes : List ℕ → ℕ
check_bytes s = tf005 s + 1

abbrev pub check_at : List ℕ → ℕ
check_at s = payload_at s + tf003 s + authentication s

abbrev pub frame_bytes : List ℕ → ℕ
frame_bytes s = check_at s + check_bytes s
