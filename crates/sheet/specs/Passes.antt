-- Serves proofs: what one pass of the code over a payload or a sheet must come to, by the layout that its start walks.
use Rattle.std.specs.Prelude.{◌≡◌, Bool, true, false, List, [], ◌++◌, ℕ, ◌*◌, ◌^◌, ◌≤◌, ◌<◌, length, drop, Ok, Err, Some, None}
use Rattle.sizes.specs.Sizes.{longest_payload}
use Rattle.answer.specs.declared.Fault as answer
use Rattle.answer.specs.declared.Refusal.TheVariants.{UnknownType}
use Rattle.answer.specs.Place.{nowhere}
use Rattle.bits.specs.Bits.{to_bits}
use Rattle.layout.specs.Layout.{Layout, read_l, Written, written, unwritten, write_l}
use Rattle.layout.specs.Run.{Ended, finished, stopped, run_l}
use Rattle.layout.specs.Parts.{Part, absent, present}
use Rattle.layout.specs.Walks.{Walks}
use Rattle.rows.specs.Puts.{Counted}
use Rattle.message.specs.declared.State.{State}
use Rattle.message.specs.Results.{Start}
use Rattle.message.specs.Machine.{field_of, step_of, start_of}
use Rattle.message.specs.Messages.{Message, layout_for}
use Rattle.sheet.specs.Stores.{Finishes}
use Rattle.sheet.specs.Sheet.{read_answer_by, bytes_for, then_length, write_answer_by, out_by}
use Rattle.sheet.specs.Results.{ReadAnswer}
use Rattle.sheet.specs.Results.{WriteAnswer}
use Rattle.sheet.specs.Results.{Pass}

-- for the layout of a message that starts at s
abbrev pub ForLayout : State → (Layout Message → Type 0) → Type 0
ForLayout s claim = (l : Layout Message) → Walks field_of step_of s l → claim l

-- a pass over a payload, which stores nothing
abbrev pub ended_by : Pass → Ended
ended_by (Ok p) = finished p.entries p.bits []
ended_by (Err why) = stopped why

abbrev pub bits_of_pass : Pass → ℕ
bits_of_pass (Ok p) = p.bits
bits_of_pass (Err why) = 0

pub record ReadPass (payload : List ℕ) (start : State) (pass : Pass) : Type 0 where
  pub ends : ForLayout start (λ l. ended_by pass ≡ run_l l (to_bits payload) 0 0 [])

-- a payload judged by the layout
pub record ReadJudged (payload : List ℕ) (start : State) (answer : ReadAnswer) : Type 0 where
  pub answers : ForLayout start (λ l. answer ≡ read_answer_by (read_l l (to_bits payload)))

-- a type and subtype that has a start, and a pass and a judgement from there
abbrev pub is_known_start : Start → Bool
is_known_start (Some s) = true
is_known_start None = false

pub record StartedPass (kind subtype : ℕ) (payload : List ℕ) (pass : Pass) : Type 0 where
  pub from : (start : State) → start_of kind subtype ≡ Some start → ReadPass payload start pass

pub record StartedJudged (kind subtype : ℕ) (payload : List ℕ) (answer : ReadAnswer) : Type 0 where
  pub from : (start : State) → start_of kind subtype ≡ Some start → ReadJudged payload start answer

-- an accepted payload stored by its layout: the codes are on the sheet
pub record Fills (e : Ended) (sheet' : List ℕ) : Type 0 where
  pub count : ℕ
  pub used : ℕ
  pub is : e ≡ finished count used sheet'

pub record Filled (kind subtype : ℕ) (payload sheet sheet' : List ℕ) : Type 0 where
  pub fills : (l : Layout Message) → layout_for kind subtype ≡ present l → Finishes (run_l l (to_bits payload) 0 0 sheet) → Fills (run_l l (to_bits payload) 0 0 sheet) sheet'

-- ---- writing

-- what a pass comes to by what the writing gives; bits that do not all have room may be stored in part or not at all
pub data PutBy (out out' : List ℕ) : Written → Pass → Type 0 where
  whole : {bits : List ℕ} {entries count : ℕ} → Counted count (length bits)
      → (length bits ≤ 8 * longest_payload → length bits ≤ 8 * length out → to_bits out' ≡ bits ++ drop (length bits) (to_bits out))
      → PutBy out out' (written bits) (Ok (record { entries = entries; bits = count }))
  fault : {why : answer.Fault} → PutBy out out' (unwritten why) (Err why)

pub record WritePass (sheet out : List ℕ) (start : State) (pass : Pass) (out' : List ℕ) : Type 0 where
  pub puts : ForLayout start (λ l. PutBy out out' (write_l l sheet) pass)
  pub small : bits_of_pass pass < 2 ^ 33

abbrev pub bits_written : WriteAnswer → ℕ
bits_written (Ok p) = p.bits
bits_written (Err why) = 0

abbrev pub bytes_written : WriteAnswer → ℕ
bytes_written (Ok p) = p.bytes
bytes_written (Err why) = 0

-- what is written of a sheet of a type and subtype, LENGTH left aside
abbrev pub written_with : List ℕ → Part (Layout Message) → Written
written_with sheet absent = unwritten (nowhere UnknownType)
written_with sheet (present l) = write_l l sheet

abbrev pub written_of : (kind subtype : ℕ) → List ℕ → Written
written_of kind subtype sheet = written_with sheet (layout_for kind subtype)

pub record SheetPass (kind subtype : ℕ) (sheet out : List ℕ) (pass : Pass) (out' : List ℕ) : Type 0 where
  pub puts : PutBy out out' (written_of kind subtype sheet) pass
  pub small : bits_of_pass pass < 2 ^ 33

-- a sheet judged
pub record SheetJudged (kind subtype : ℕ) (sheet : List ℕ) (answer : WriteAnswer) : Type 0 where
  pub answers : answer ≡ write_answer_by (then_length (written_of kind subtype sheet))
  pub round : bytes_written answer ≡ bytes_for (bits_written answer)
  pub good : bytes_written answer ≤ longest_payload

-- what is kept aside of an accepted sheet: its bits, where all of them have room
pub data AsideBits (aside aside' : List ℕ) : Written → Type 0 where
  text : {bits : List ℕ} → (length bits ≤ 8 * longest_payload → length bits ≤ 8 * length aside → to_bits aside' ≡ bits ++ drop (length bits) (to_bits aside))
      → AsideBits aside aside' (written bits)
  nothing : {why : answer.Fault} → AsideBits aside aside' (unwritten why)

-- a sheet judged, and its bits kept aside
pub record SheetKept (kind subtype : ℕ) (sheet aside : List ℕ) (answer : WriteAnswer) (aside' : List ℕ) : Type 0 where
  pub judged : SheetJudged kind subtype sheet answer
  pub keeps : AsideBits aside aside' (written_of kind subtype sheet)

-- the whole writing, in one answer
pub record WriteWhole (kind subtype : ℕ) (sheet out : List ℕ) (answer : WriteAnswer) (out' : List ℕ) : Type 0 where
  pub answers : answer ≡ write_answer_by (then_length (written_of kind subtype sheet))
  pub leaves : to_bits out' ≡ out_by (then_length (written_of kind subtype sheet)) out
