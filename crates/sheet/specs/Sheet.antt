-- Definitions to believe: a payload read into a sheet and a sheet written into bytes, for all inputs (document 01, "Payloads" and "Answer numbers").
use Rattle.std.specs.Prelude.{Bool, ◌||◌, List, ◌++◌, ℕ, ◌+◌, ◌-◌, ◌*◌, ◌/◌, eqb, ltb, length, drop, Ok, Err}
use Rattle.sizes.specs.Sizes.{longest_payload, sheet_room}
use Rattle.answer.specs.Stop.{stop}
use Rattle.answer.specs.Place.{nowhere}
use Rattle.answer.specs.declared.Refusal.TheVariants.{Length, UnknownType, Room}
use Rattle.bits.specs.Bits.{to_bits, bits_of}
use Rattle.layout.specs.Layout.{Layout, Outcome, accepted, refused, read_l, Written, written, unwritten, write_l}
use Rattle.layout.specs.Parts.{Part, absent, present}
use Rattle.message.specs.Messages.{Message, layout_for}
use Rattle.sheet.specs.Results.{ReadAnswer}
use Rattle.sheet.specs.Results.{WriteAnswer}

-- LENGTH: "payload of 0 or over 1,023 bytes"
abbrev pub bad_length : ℕ → Bool
bad_length bytes = eqb bytes 0 || ltb longest_payload bytes

-- refuse here if no payload has this type and subtype, else go on with its layout
abbrev pub known : {A : Type 0} → Part (Layout Message) → A → (Layout Message → A) → A
known absent refusal rest = refusal
known (present layout) refusal rest = rest layout

-- ---- reading

-- what a payload of a type and subtype says: "UNKNOWN_TYPE, LENGTH, then the first fault in reading order"
unfoldable pub judging : (kind subtype : ℕ) (payload : List ℕ) → Outcome Message
judging kind subtype payload =
    known (layout_for kind subtype) (refused (nowhere UnknownType)) (λ layout.
    stop (bad_length (length payload)) (refused (nowhere Length)) (
    read_l layout (to_bits payload)))

-- "Reading order of checks: ROOM, UNKNOWN_TYPE, LENGTH, then the first fault in reading order"
unfoldable pub reading : (kind subtype : ℕ) (payload sheet : List ℕ) → Outcome Message
reading kind subtype payload sheet = stop (ltb (length sheet) sheet_room) (refused (nowhere Room)) (judging kind subtype payload)

-- the count of bits read and of entries written, or the refusal with its place
abbrev pub read_answer_by : Outcome Message → ReadAnswer
read_answer_by (accepted message codes bits) = Ok (record { bits = bits; entries = length codes })
read_answer_by (refused why) = Err why

-- the codes in reading order, later entries as lent; a refusal alters nothing
abbrev pub sheet_by : Outcome Message → List ℕ → List ℕ
sheet_by (accepted message codes bits) sheet = codes ++ drop (length codes) sheet
sheet_by (refused why) sheet = sheet

-- a payload judged without a sheet
unfoldable pub judged : (kind subtype : ℕ) (payload : List ℕ) → ReadAnswer
judged kind subtype payload = read_answer_by (judging kind subtype payload)

unfoldable pub read_answer : (kind subtype : ℕ) (payload sheet : List ℕ) → ReadAnswer
read_answer kind subtype payload sheet = read_answer_by (reading kind subtype payload sheet)

unfoldable pub sheet_after : (kind subtype : ℕ) (payload sheet : List ℕ) → List ℕ
sheet_after kind subtype payload sheet = sheet_by (reading kind subtype payload sheet) sheet

-- ---- writing

-- the bytes that so many bits take
abbrev pub bytes_for : ℕ → ℕ
bytes_for bits = (bits + 7) / 8

-- LENGTH, after every fault and LEFTOVER
abbrev pub then_length : Written → Written
then_length (written bits) = stop (bad_length (bytes_for (length bits))) (unwritten (nowhere Length)) (written bits)
then_length (unwritten why) = unwritten why

-- the bits that a sheet of a type and subtype says: "UNKNOWN_TYPE, first fault, LEFTOVER, LENGTH"
unfoldable pub judging_sheet : (kind subtype : ℕ) (sheet : List ℕ) → Written
judging_sheet kind subtype sheet =
    known (layout_for kind subtype) (unwritten (nowhere UnknownType)) (λ layout.
    then_length (write_l layout sheet))

-- "Writing: ROOM, UNKNOWN_TYPE, first fault, LEFTOVER, LENGTH."
unfoldable pub writing : (kind subtype : ℕ) (sheet out : List ℕ) → Written
writing kind subtype sheet out = stop (ltb (length out) longest_payload) (unwritten (nowhere Room)) (judging_sheet kind subtype sheet)

-- the count of bits and of bytes written, or the refusal with its place
abbrev pub write_answer_by : Written → WriteAnswer
write_answer_by (written bits) = Ok (record { bits = length bits; bytes = bytes_for (length bits) })
write_answer_by (unwritten why) = Err why

-- "The writer fills the last byte with zeros": the zeros behind so many bits
abbrev pub fill_for : ℕ → List ℕ
fill_for bits = bits_of (8 * bytes_for bits - bits) 0

-- the bits of the message and the fill, later bytes as lent; a refusal alters nothing
abbrev pub out_by : Written → List ℕ → List ℕ
out_by (written bits) out = bits ++ (fill_for (length bits) ++ drop (8 * bytes_for (length bits)) (to_bits out))
out_by (unwritten why) out = to_bits out

-- a sheet judged without room to write it
unfoldable pub judged_sheet : (kind subtype : ℕ) (sheet : List ℕ) → WriteAnswer
judged_sheet kind subtype sheet = write_answer_by (judging_sheet kind subtype sheet)

unfoldable pub write_answer : (kind subtype : ℕ) (sheet out : List ℕ) → WriteAnswer
write_answer kind subtype sheet out = write_answer_by (writing kind subtype sheet out)

-- all bits of the lent bytes afterwards
unfoldable pub out_after : (kind subtype : ℕ) (sheet out : List ℕ) → List ℕ
out_after kind subtype sheet out = out_by (writing kind subtype sheet out) out

-- ---- the answers' numbers in document 01
