-- Definitions to believe: document 01, "The frame", second and third paragraph. When a frame is accepted, and what is handed back.
use Rattle.std.specs.Prelude.{List, [], Bool, cond, not, ◌&&◌, ℕ, ◌+◌, ◌-◌, ◌*◌, leb, ltb, eqb, length, get_or, take, drop, Some, None}
use Rattle.answer.specs.Stop.{stop}
use Rattle.answer.specs.Number.{number_of}
use Rattle.answer.specs.declared.Refusal.TheVariants.{Preamble, FrameCrc, Length, MessageCrc}
use Rattle.bits.specs.Bits.{field}
use Rattle.checks.specs.Crc.{frame_crc, message_crc}
use Rattle.frame.specs.Fields.{preamble, tf002, tf003, tf004, tf005, tf006, tf007, tf008, tf009, tf010, tf011, tf012, tf013, tf014, tf015, payload_at, authenticated, check_bytes, check_at, frame_bytes}
use Rattle.frame.specs.declared.Frame.{Frame}
use Rattle.frame.specs.declared.Sealing.{Sealing}
use Rattle.frame.specs.Results.{Seal}
use Rattle.frame.specs.declared.Checked.{Checked}
use Rattle.frame.specs.declared.Checked.TheVariants.{Accepted, Short, Refused}

-- what is handed back of an accepted frame
abbrev pub sealing_of : List ℕ → Sealing
sealing_of s = record { id = tf012 s; sequence = tf013 s; authentication = tf014 s; authentication_length = tf015 s }

abbrev pub seal_of : List ℕ → Seal
seal_of s = cond (eqb (tf004 s) 0) None (Some (sealing_of s))

unfoldable pub frame_of : List ℕ → Frame
frame_of s =
    record {
      message_type = tf002 s;
      payload_length = tf003 s;
      seal = seal_of s;
      check_type = tf005 s;
      subtype = tf007 s;
      tag_kind = tf008 s;
      tag = tf009 s;
      solution = tf010 s;
      processor = tf011 s;
      payload_at = payload_at s;
      length = frame_bytes s;
    }

-- "TF018 covers everything after the preamble up to itself"
unfoldable pub bad_message_crc : List ℕ → Bool
bad_message_crc s = not (eqb (message_crc (tf005 s) (take (check_at s - 1) (drop 1 s))) (field s (8 * check_at s) (8 * check_bytes s)))

unfoldable pub bad_frame_crc : List ℕ → Bool
bad_frame_crc s = not (eqb (frame_crc (get_or s 1 0) (get_or s 2 0) (get_or s 3 0)) (tf006 s))

-- SHORT where fewer than n bytes are there. The answer says n: it stays SHORT while fewer than n are there, though it may come to want more.
abbrev pub want : ℕ → List ℕ → Checked → Checked
want n s rest = stop (ltb (length s) n) (Short n) rest

-- "SHORT if empty, PREAMBLE, SHORT, FRAME_CRC, LENGTH for TF003, SHORT for the description, LENGTH for TF015, SHORT, MESSAGE_CRC."
unfoldable pub checked : List ℕ → Checked
checked s =
    want 1 s
    (stop (not (eqb (get_or s 0 0) preamble)) (Refused Preamble)
    (want 4 s
    (stop (bad_frame_crc s) (Refused FrameCrc)
    (stop (eqb (tf003 s) 0) (Refused Length)
    (want (payload_at s) s
    (stop (authenticated s && ltb 4 (tf015 s)) (Refused Length)
    (want (frame_bytes s) s
    (stop (bad_message_crc s) (Refused MessageCrc)
    (Accepted (frame_of s))))))))))

-- the answer's number in document 01
abbrev pub number_of_checked : Checked → ℕ
number_of_checked (Accepted frame) = 0
number_of_checked (Short wanted) = 1
number_of_checked (Refused refusal) = number_of refusal

-- the part of the bytes that a header says is its payload, where so many bytes are there; else the empty part at their start
abbrev pub fits_in : Frame → List ℕ → Bool
fits_in frame s = leb (frame.payload_at + frame.payload_length) (length s)

unfoldable pub payload_in : Frame → List ℕ → List ℕ
payload_in frame s = cond (fits_in frame s) (take frame.payload_length (drop frame.payload_at s)) []

-- and how many bytes of the lent ones are before that part
unfoldable pub place_in : Frame → List ℕ → ℕ
place_in frame s = cond (fits_in frame s) frame.payload_at 0

-- "An accepted frame hands back its payload as a part of the bytes that were lent; a refused one, the empty part at their start."
-- (That the payload of an accepted frame is there: `payload-there` of Laws.antt.)
abbrev pub payload_by : Checked → List ℕ → List ℕ
payload_by (Accepted frame) s = payload_in frame s
payload_by (Short wanted) s = []
payload_by (Refused refusal) s = []

unfoldable pub payload_of : List ℕ → List ℕ
payload_of s = payload_by (checked s) s

abbrev pub place_by : Checked → List ℕ → ℕ
place_by (Accepted frame) s = place_in frame s
place_by (Short wanted) s = 0
place_by (Refused refusal) s = 0

unfoldable pub place_of : List ℕ → ℕ
place_of s = place_by (checked s) s
