-- Document 01, "Measured cases": one table against the definitions. Definitions to believe; proofs/Measured.antt proves that the table holds.
use Rattle.std.specs.Prelude.{Bool, true, false, List, [], ◌∷◌, ◌++◌, ℕ, ◌+◌, ◌*◌, ◌^◌, pos, replicate, Float, Ok, Err, Some}
use Rattle.std.specs.Float.{fin, binary64}
use Rattle.std.specs.Float.Ieee.{round}
use Rattle.answer.specs.Place.{nowhere}
use Rattle.answer.specs.declared.Refusal.TheVariants.{Field, AreaOff}
use Rattle.bits.specs.Bits.{bits_of, number}
use Rattle.sizes.specs.Sizes.{book_bytes, log_room}
use Rattle.book.specs.Book.{book_of, no_book}
use Rattle.book.specs.Take.{taken_of}
use Rattle.book.specs.Results as took
use Rattle.desk.specs.Desk.{new_desk}
use Rattle.desk.specs.Take.{hands, verdict, logged_by, leaving_by, frame_taken}
use Rattle.desk.specs.Results.{NewDesk}
use Rattle.desk.specs.Results.{Run}
use Rattle.frame.specs.Write.{bytes_of, plain}
use Rattle.groups.specs.Groups.{groups_of}
use Rattle.sheet.specs.Results.{WriteAnswer}
use Rattle.sheet.specs.Sheet.{judged_sheet}
use Rattle.values.specs.declared.Yaw.TheVariants as Yaw
use Rattle.values.specs.declared.Value.{Value}
use Rattle.values.specs.declared.Value.TheVariants.{Metres, Degrees, OfYaw, Refused}
use Rattle.fields.specs.Fields.{sf}
use Rattle.values.specs.Values.{value_of}

-- ---- what a case asks of the definitions, and what they say

pub data Question : Type 0 where
  value_at : (sf code : ℕ) → Question
  payload_of : (kind subtype : ℕ) (sheet : List ℕ) → Question
  into_book : (payload : List ℕ) → Question
  in_groups : (number : ℕ) → Question
  run_after : (frame : List ℕ) → Question
  log_after : (frame : List ℕ) → Question

pub data Answer : Type 0 where
  means : (value : Value) → Answer
  takes : (answer : WriteAnswer) → Answer
  leaves : (taken : took.Taken) → Answer
  bytes : (groups : List ℕ) → Answer
  opens : (run : Run) → Answer
  no_desk : Answer

-- what is lent to a desk: the bytes of its live book and of its run's book, and a log
abbrev pub book : List ℕ
book = replicate book_bytes 0

abbrev pub log : List ℕ
log = replicate log_room 0

-- the run that a new desk has open after its first frame, and the log bytes that it writes of it
abbrev pub first_run_of : NewDesk → (second : ℕ) → (frame : List ℕ) → Answer
first_run_of (Ok desk) second frame = opens (frame_taken (hands desk frame second book book log)).answer.desk.run
first_run_of (Err why) second frame = no_desk

abbrev pub first_log : NewDesk → (second : ℕ) → (frame : List ℕ) → Answer
first_log (Ok desk) second frame =
    bytes (logged_by (leaving_by (hands desk frame second book book log)) book book (verdict (hands desk frame second book book log)))
first_log (Err why) second frame = no_desk

-- where a frame comes in at this second
abbrev pub said : (second : ℕ) → Question → Answer
said second (value_at sf code) = means (value_of sf code)
said second (payload_of kind subtype sheet) = takes (judged_sheet kind subtype sheet)
-- a GAD, taken into a book without areas
said second (into_book payload) = leaves (taken_of no_book book payload)
said second (in_groups number) = bytes (groups_of number)
-- for solution 0, processor 0 and GPS
said second (run_after frame) = first_run_of (new_desk 0 0 0) second frame
said second (log_after frame) = first_log (new_desk 0 0 0) second frame

pub record Case : Type 0 where
  pub asked : Question
  pub answer : Answer

abbrev pub at : Question → Answer → Case
at asked answer = record { asked = asked; answer = answer }

-- ---- the table

-- a decimal of the page, negative or not, as the float nearest to it: -16.382 is `decimal true 16382 1000`
unfoldable pub decimal : Bool → ℕ → ℕ → Float
decimal negative digits over = round binary64 negative digits over

-- 8 rows at 3.2 degrees from a latitude: SF034 is 7, SF036 is 31
abbrev pub eight_rows : ℕ → ℕ
eight_rows latitude = latitude * 2 ^ 28 + 7 * 2 ^ 13 + 31 * 2 ^ 5

-- the GAD payload of one area: its 47 bits lie from bit 19 on, all else is zero
abbrev pub gad_of : ℕ → List ℕ
gad_of area = bytes_of 9 (bits_of 19 0 ++ (bits_of 47 area ++ bits_of 6 0))

-- the HPAC payload for GPS with area 5 alone and nothing sent of it: SF031 lies from bit 19 on, all else is zero
abbrev pub area_five : List ℕ
area_five = 0 ∷ 0 ∷ 0 ∷ 0xA0 ∷ 0 ∷ []

-- a plain frame with it, the tag of 16 bits (kind 0) or 32 (kind 1)
abbrev pub hpac_with : (kind tag : ℕ) → List ℕ
hpac_with kind tag =
    plain
    (record { message_type = 1; check_type = 0; subtype = 0; tag_kind = kind; tag = tag; solution = 0; processor = 0 })
    area_five

unfoldable pub measured : List Case
measured =
    -- 1. SF020: 0 is -16.382 m, 8191 zero, 16382 +16.382, 16383 FIELD.
    at (value_at 20 0) (means (Metres (decimal true 16382 1000))) ∷
    at (value_at 20 8191) (means (Metres (fin false 0 (pos 0)))) ∷
    at (value_at 20 16382) (means (Metres (decimal false 16382 1000))) ∷
    at (value_at 20 16383) (means (Refused Field)) ∷
    -- 2. SF032: 1800 is 90.0, 1801 FIELD.
    at (value_at 32 1800) (means (Degrees (decimal false 900 10))) ∷
    at (value_at 32 1801) (means (Refused Field)) ∷
    -- 3. SF021: 59 is 354, 60 FIELD.
    at (value_at 21 59) (means (OfYaw (Yaw.Degrees (decimal false 354 1)))) ∷
    at (value_at 21 60) (means (Refused Field)) ∷
    -- 4. GPS OCB, one unused satellite: 50 bits, 7 bytes.
    at (payload_of 0 0 (5 ∷ 1 ∷ 0 ∷ 0 ∷ 0 ∷ 0 ∷ 0 ∷ 134217728 ∷ 1 ∷ [])) (takes (Ok (record { bits = 50; bytes = 7 }))) ∷
    -- 5. BeiDou likewise 57 bits, 8 bytes.
    at (payload_of 0 3 (5 ∷ 1 ∷ 0 ∷ 0 ∷ 0 ∷ 0 ∷ 0 ∷ 4294967296 ∷ 1 ∷ [])) (takes (Ok (record { bits = 57; bytes = 8 }))) ∷
    -- 6. One-area GAD: 66 bits, 9 bytes.
    at (payload_of 2 0 (5 ∷ 3 ∷ 0 ∷ 0 ∷ 7 ∷ 1234 ∷ 2000 ∷ 3 ∷ 4 ∷ 9 ∷ 9 ∷ [])) (takes (Ok (record { bits = 66; bytes = 9 }))) ∷
    -- 7. 8 rows at 3.2 degrees: latitude code 224 fits (-90.0), 223 AREA_OFF.
    at (into_book (gad_of (eight_rows 224))) (leaves (Ok (book_of 1 1 1))) ∷
    at (into_book (gad_of (eight_rows 223))) (leaves (Err (nowhere AreaOff))) ∷
    -- 8. 43,199 is BF D1 02.
    at (in_groups 43199) (bytes (0xBF ∷ 0xD1 ∷ 0x02 ∷ [])) ∷
    -- 9. Tag 4294967295 becomes 23295.
    at (run_after (hpac_with 1 4294967295)) (opens (Some (record { tag = 23295; book = no_book }))) ∷
    -- 10. First HPAC, no book, tag 43,199, one area 5: 01 BF D1 02 00 00 03 05 01.
    at (log_after (hpac_with 0 43199)) (bytes (0x01 ∷ 0xBF ∷ 0xD1 ∷ 0x02 ∷ 0x00 ∷ 0x00 ∷ 0x03 ∷ 0x05 ∷ 0x01 ∷ [])) ∷
    []
