-- Definitions to believe: the answers of `frame` in numbers.
use Rattle.std.specs.Prelude.{List, [], ◌∷◌, ℕ, Ok, Err, Some, None}
use Rattle.export.specs.Numbers.{Told, refused}
use Rattle.frame.specs.declared.Frame.{Frame}
use Rattle.frame.specs.declared.Parts.{Parts}
use Rattle.frame.specs.declared.Sealing.{Sealing}
use Rattle.frame.specs.Results.{Seal}
use Rattle.frame.specs.declared.Checked.{Checked}
use Rattle.frame.specs.declared.Checked.TheVariants as check
use Rattle.frame.specs.Results.{Written}

-- the places that a header takes
abbrev pub header_room : ℕ
header_room = 15

-- TF004
abbrev pub is_sealed : Seal → ℕ
is_sealed None = 0
is_sealed (Some sealing) = 1

-- TF012 to TF015, zeros in a plain frame
abbrev pub sealing_of : Seal → Sealing
sealing_of None = record { id = 0; sequence = 0; authentication = 0; authentication_length = 0 }
sealing_of (Some sealing) = sealing

-- the frame's length in bytes; TF002 to TF005, TF007 to TF011, TF012 to TF015; how many bytes are before the payload
unfoldable pub header_of : Frame → List ℕ
header_of f =
    f.length
    ∷ f.message_type
    ∷ f.payload_length
    ∷ is_sealed f.seal
    ∷ f.check_type
    ∷ f.subtype
    ∷ f.tag_kind
    ∷ f.tag
    ∷ f.solution
    ∷ f.processor
    ∷ (sealing_of f.seal).id
    ∷ (sealing_of f.seal).sequence
    ∷ (sealing_of f.seal).authentication
    ∷ (sealing_of f.seal).authentication_length
    ∷ f.payload_at
    ∷ []

unfoldable pub told_checked : Checked → Told
told_checked (check.Accepted frame) = record { number = 0; numbers = header_of frame }
told_checked (check.Short wanted) = record { number = 1; numbers = [] }
told_checked (check.Refused refusal) = refused refusal

-- what the writer is told
abbrev pub parts_of : (kind check subtype tag_kind tag solution processor : ℕ) → Parts
parts_of kind check subtype tag_kind tag solution processor =
    record {
      message_type = kind;
      check_type = check;
      subtype = subtype;
      tag_kind = tag_kind;
      tag = tag;
      solution = solution;
      processor = processor;
    }

-- the frame's length
unfoldable pub told_written : Written → Told
told_written (Ok n) = record { number = 0; numbers = n ∷ [] }
told_written (Err refusal) = refused refusal
