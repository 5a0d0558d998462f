-- Definitions to believe: what is lent to a call of `prepare`, and its answers in numbers.
use Rattle.std.specs.Prelude.{Bool, cond, ◌||◌, List, [], ◌∷◌, ℕ, ltb, length}
use Rattle.answer.specs.Number.{number_of}
use Rattle.answer.specs.Place.{sf_in, at_in}
use Rattle.export.specs.Numbers.{Told, refused, room, laid}
use Rattle.export.specs.Frames.{header_room, header_of}
use Rattle.export.specs.Streams.{tray_room, tray_in, tray_of}
use Rattle.prepare.specs.declared.Said.{Said}
use Rattle.prepare.specs.declared.Said.TheVariants as said
use Rattle.prepare.specs.declared.Answer.{Answer}
use Rattle.prepare.specs.Prepare.{Handed, hands, Result, by_call, by_finish}
use Rattle.exportdesk.specs.States.{desk_room, desk_in, desk_of}

-- the tray's bytes and numbers, the desk's numbers, the bytes of its two books, the log, and places for what is told and for a header; and the second that is handed over with them
pub record Lent : Type 0 where
  pub bytes : List ℕ
  pub tray : List ℕ
  pub desk : List ℕ
  pub live : List ℕ
  pub run : List ℕ
  pub log : List ℕ
  pub told : List ℕ
  pub header : List ℕ
  pub second : ℕ

abbrev pub lends : (bytes tray desk live run log told header : List ℕ) → (second : ℕ) → Lent
lends bytes tray desk live run log told header second =
    record { bytes = bytes; tray = tray; desk = desk; live = live; run = run; log = log; told = told; header = header; second = second }

-- the places of what is told
abbrev pub told_room : ℕ
told_room = 7

-- ROOM of the slices of numbers; that of the slices of bytes is for the call below to say
unfoldable pub lacks_room : (tray desk told header : List ℕ) → Bool
lacks_room tray desk told header =
    ltb (length tray) tray_room || (ltb (length desk) desk_room || (ltb (length told) told_room || ltb (length header) header_room))

-- ---- the call below, on the tray and the desk that the numbers say: its answer, and the four slices of bytes then

abbrev pub handed_in : Lent → Handed
handed_in lent = hands lent.bytes (tray_in lent.tray) (desk_in lent.desk) lent.live lent.run lent.log lent.second

unfoldable pub call_result : Lent → (input : List ℕ) → Result
call_result lent input = by_call (handed_in lent) input

unfoldable pub finish_result : Lent → Result
finish_result lent = by_finish (handed_in lent)

-- ---- its answer in numbers

-- the event (0 hungry, 1 frame, 2 noise, 3 done), the bytes of the input used, the noise told, what the desk said of the frame, the bytes of the log written; of a frame that the desk
-- refused the place: the field's number and the bit of the payload, 0 and 0 where there is none
unfoldable pub event_of : (event used noise number log sf bit : ℕ) → List ℕ
event_of event used noise number log sf bit = event ∷ used ∷ noise ∷ number ∷ log ∷ sf ∷ bit ∷ []

-- "What the desk says of a frame .. is then an event of the call with its number, not a refusal of the call."
unfoldable pub told_said : Said → (used log : ℕ) → Told
told_said said.Hungry used log = record { number = 0; numbers = event_of 0 used 0 0 log 0 0 }
told_said (said.Accepted header) used log = record { number = 0; numbers = event_of 1 used 0 0 log 0 0 }
told_said (said.FrameRefused header why) used log = record { number = 0; numbers = event_of 1 used 0 (number_of why.refusal) log (sf_in why.place) (at_in why.place) }
told_said (said.Noise count) used log = record { number = 0; numbers = event_of 2 used count 0 log 0 0 }
told_said said.Done used log = record { number = 0; numbers = event_of 3 used 0 0 log 0 0 }
told_said (said.Refused why) used log = refused why

unfoldable pub told_answer : Answer → Told
told_answer answer = told_said answer.said answer.used answer.log

-- of a frame, accepted by the desk or refused, the header
unfoldable pub header_said : Said → List ℕ
header_said said.Hungry = []
header_said (said.Accepted header) = header_of header
header_said (said.FrameRefused header why) = header_of header
header_said (said.Noise count) = []
header_said said.Done = []
header_said (said.Refused why) = []

-- the numbers of a state afterwards; a refusal of the call leaves the old ones
unfoldable pub state_said : Said → List ℕ → List ℕ
state_said said.Hungry numbers = numbers
state_said (said.Accepted header) numbers = numbers
state_said (said.FrameRefused header why) numbers = numbers
state_said (said.Noise count) numbers = numbers
state_said said.Done numbers = numbers
state_said (said.Refused why) numbers = []

-- ---- the number of a call, and what was lent afterwards

unfoldable pub number_told_by : Lent → Result → ℕ
number_told_by lent result = cond (lacks_room lent.tray lent.desk lent.told lent.header) room (told_answer result.answer).number

abbrev pub leaves : Lent → Result → Lent
leaves lent result = record {
  bytes = result.bytes;
  tray = laid (state_said result.answer.said (tray_of result.answer.tray)) lent.tray;
  desk = laid (state_said result.answer.said (desk_of result.answer.desk)) lent.desk;
  live = result.live;
  run = result.run;
  log = result.log;
  told = laid (told_answer result.answer).numbers lent.told;
  header = laid (header_said result.answer.said) lent.header;
  second = lent.second;
}

unfoldable pub lent_by : Lent → Result → Lent
lent_by lent result = cond (lacks_room lent.tray lent.desk lent.told lent.header) lent (leaves lent result)

unfoldable pub call_number : Lent → (input : List ℕ) → ℕ
call_number lent input = number_told_by lent (call_result lent input)

unfoldable pub call_leaves : Lent → (input : List ℕ) → Lent
call_leaves lent input = lent_by lent (call_result lent input)

unfoldable pub finish_number : Lent → ℕ
finish_number lent = number_told_by lent (finish_result lent)

unfoldable pub finish_leaves : Lent → Lent
finish_leaves lent = lent_by lent (finish_result lent)
