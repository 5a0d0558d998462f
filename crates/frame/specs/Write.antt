-- Definitions to believe: document 01, "The frame", the plain-frame writer.
-- "The plain-frame writer (TF004 zero) gives back the bytes of any accepted plain frame from its parts."
use Rattle.std.specs.Prelude.{List, [], ◌∷◌, ◌++◌, Bool, true, false, not, ◌&&◌, ◌||◌, ℕ, zero, suc, ◌+◌, ◌*◌, ◌^◌, ltb, eqb, length, get_or, take, drop, Ok, Err, None}
use Rattle.sizes.specs.Sizes.{longest_frame, longest_payload}
use Rattle.answer.specs.declared.Refusal.TheVariants.{Room, Field, Length}
use Rattle.bits.specs.Bits.{bits_of, number}
use Rattle.checks.specs.Crc.{frame_crc, message_crc}
use Rattle.frame.specs.Fields.{preamble, tag_bits, description_bytes}
use Rattle.frame.specs.declared.Frame as F
use Rattle.frame.specs.declared.Parts.{Parts}
use Rattle.frame.specs.Results.{Written}

-- n bytes, each of the next eight bits
unfoldable pub bytes_of : ℕ → List ℕ → List ℕ
bytes_of zero bits = []
bytes_of (suc n) bits = number (take 8 bits) ∷ bytes_of n (drop 8 bits)

-- TF001 to TF006 for a payload of n bytes
abbrev pub start_bits : Parts → ℕ → ℕ → List ℕ
start_bits p n tf006 =
    bits_of 8 preamble ++ (bits_of 7 p.message_type ++ (bits_of 10 n ++ (bits_of 1 0 ++ (bits_of 2 p.check_type ++ bits_of 4 tf006))))

-- TF006 is that of the bytes 1 to 3 with four zeros where it stands itself
abbrev pub tf006_of : List ℕ → ℕ
tf006_of zeroed = frame_crc (get_or zeroed 1 0) (get_or zeroed 2 0) (get_or zeroed 3 0)

unfoldable pub start : Parts → ℕ → List ℕ
start p n = bytes_of 4 (start_bits p n (tf006_of (bytes_of 4 (start_bits p n 0))))

-- TF007 to TF011
unfoldable pub description : Parts → List ℕ
description p =
    bytes_of (4 + 2 * p.tag_kind)
    (bits_of 4 p.subtype ++ (bits_of 1 p.tag_kind ++ (bits_of (tag_bits p.tag_kind) p.tag ++ (bits_of 7 p.solution ++ bits_of 4 p.processor))))

-- all before TF018
unfoldable pub body : Parts → List ℕ → List ℕ
body p payload = start p (length payload) ++ (description p ++ payload)

-- TF018 is stored most significant byte first
unfoldable pub check_over : ℕ → List ℕ → List ℕ
check_over kind covered = bytes_of (kind + 1) (bits_of (8 * (kind + 1)) (message_crc kind covered))

unfoldable pub plain : Parts → List ℕ → List ℕ
plain p payload = body p payload ++ check_over p.check_type (drop 1 (body p payload))

-- each part has a code that its field takes
unfoldable pub in_range : Parts → Bool
in_range p =
    ltb p.message_type 128 && ltb p.check_type 4 && ltb p.subtype 16 && ltb p.tag_kind 2
    && ltb p.tag (2 ^ tag_bits p.tag_kind) && ltb p.solution 128 && ltb p.processor 16

abbrev pub refuse : Bool → Written → Written → Written
refuse true answer rest = answer
refuse false answer rest = rest

-- "It wants 1,103 bytes of room and checks ROOM, FIELD, LENGTH."
unfoldable pub written : Parts → List ℕ → List ℕ → Written
written p payload out =
    refuse (ltb (length out) longest_frame) (Err Room)
    (refuse (not (in_range p)) (Err Field)
    (refuse (eqb (length payload) 0 || ltb longest_payload (length payload)) (Err Length)
    (Ok (length (plain p payload)))))

-- what the buffer holds then: the frame and, past it, what was lent; a refusal writes nothing
abbrev pub left_by : Written → Parts → List ℕ → List ℕ → List ℕ
left_by (Ok n) p payload out = plain p payload ++ drop n out
left_by (Err refusal) p payload out = out

unfoldable pub out_after : Parts → List ℕ → List ℕ → List ℕ
out_after p payload out = left_by (written p payload out) p payload out

-- the parts that a frame's header has, and the header that a written frame has
abbrev pub parts_of : F.Frame → Parts
parts_of f =
    record {
      message_type = f.message_type;
      check_type = f.check_type;
      subtype = f.subtype;
      tag_kind = f.tag_kind;
      tag = f.tag;
      solution = f.solution;
      processor = f.processor;
    }

abbrev pub header_of : Parts → List ℕ → F.Frame
header_of p payload =
    record {
      message_type = p.message_type;
      payload_length = length payload;
      seal = None;
      check_type = p.check_type;
      subtype = p.subtype;
      tag_kind = p.tag_kind;
      tag = p.tag;
      solution = p.solution;
      processor = p.processor;
      payload_at = 4 + description_bytes p.tag_kind 0;
      length = length (plain p payload);
    }
