-- The tail of `checked` after its first tests, and after the description's. These serve the proof of `check` and are no part of what is promised.
use Rattle.std.specs.Prelude.{List, not, ◌&&◌, ℕ, ltb, eqb, get_or}
use Rattle.answer.specs.declared.Refusal.TheVariants.{Preamble, FrameCrc, Length, MessageCrc}
use Rattle.frame.specs.Fields.{preamble, tf003, tf015, payload_at, authenticated, frame_bytes}
use Rattle.answer.specs.Stop.{stop}
use Rattle.frame.specs.Check.{want, bad_frame_crc, bad_message_crc, frame_of}
use Rattle.frame.specs.declared.Checked.{Checked}
use Rattle.frame.specs.declared.Checked.TheVariants.{Accepted, Refused}

-- from the last SHORT on
unfoldable pub whole : List ℕ → Checked
whole s = want (frame_bytes s) s (stop (bad_message_crc s) (Refused MessageCrc) (Accepted (frame_of s)))

-- from the description's SHORT on
unfoldable pub described : List ℕ → Checked
described s = want (payload_at s) s (stop (authenticated s && ltb 4 (tf015 s)) (Refused Length) (whole s))

-- the tests before, and then what comes after them
abbrev pub starting : List ℕ → Checked → Checked
starting s rest =
    want 1 s
    (stop (not (eqb (get_or s 0 0) preamble)) (Refused Preamble)
    (want 4 s (stop (bad_frame_crc s) (Refused FrameCrc) (stop (eqb (tf003 s) 0) (Refused Length) rest))))
