-- Definitions to believe: one call that moves stream and desk an event on, and one that finishes: document 01, "The stream", "Book and run".
use Rattle.std.specs.Prelude.{Bool, not, ◌&&◌, ◌||◌, List, ◌++◌, ℕ, ltb, length, drop}
use Rattle.answer.specs.Number.{number_of}
use Rattle.answer.specs.Stop.{stop}
use Rattle.answer.specs.declared.Refusal.TheVariants as refusal
use Rattle.sizes.specs.Sizes.{longest_frame}
use Rattle.stream.specs.declared.Tray.{Tray}
use Rattle.stream.specs.Tray.{sound, Outcome, refused, told, hungry, done, called, finished, tray_of, bytes_of}
use Rattle.desk.specs.declared.Desk.{Desk}
use Rattle.desk.specs.Desk.{desk_sound}
use Rattle.desk.specs.Take as desk
use Rattle.desk.specs.History.{Held}
use Rattle.prepare.specs.declared.Said.{Said}
use Rattle.prepare.specs.declared.Said.TheVariants as said
use Rattle.prepare.specs.declared.Answer.{Answer}
use Rattle.prepare.specs.Uncut as uncut

-- ---- what a call is given besides the input: the tray's bytes and the tray, a desk with its books, a log, and the second, which counts for the frame that is told by the call

pub record Handed : Type 0 where
  pub bytes : List ℕ
  pub tray : Tray
  pub books : Held
  pub log : List ℕ
  pub second : ℕ

abbrev pub books_in : Desk → (live run : List ℕ) → Held
books_in desk live run = record { desk = desk; live = live; run = run }

abbrev pub hands : (bytes : List ℕ) → Tray → Desk → (live run log : List ℕ) → (second : ℕ) → Handed
hands bytes tray desk live run log second = record { bytes = bytes; tray = tray; books = books_in desk live run; log = log; second = second }

-- ---- ROOM of every lent buffer, then STATE of tray and desk, then the step (DECISIONS)

-- ROOM: "lent buffer under its stated size"
abbrev pub lacks_room : (bytes live run log : List ℕ) → Bool
lacks_room bytes live run log = ltb (length bytes) longest_frame || desk.lacks_room live run log

-- STATE: "state or book that is not sound"
abbrev pub is_sound : Handed → Bool
is_sound handed =
    desk_sound handed.books.desk handed.books.live handed.books.run && sound handed.bytes handed.tray

abbrev pub guarded : Handed → Outcome → Outcome
guarded handed step =
    stop (lacks_room handed.bytes handed.books.live handed.books.run handed.log) (refused refusal.Room)
    (stop (not (is_sound handed)) (refused refusal.State)
    step)

-- what the stream comes to: a refusal, an event, hungry or done
unfoldable pub call_outcome : Handed → (input : List ℕ) → Outcome
call_outcome handed input = guarded handed (called handed.bytes handed.tray input)

unfoldable pub finish_outcome : Handed → Outcome
finish_outcome handed = guarded handed (finished handed.bytes handed.tray)

-- ---- what is answered: what the desk says of a frame is an event of the call with its number, not a refusal of the call (DECISIONS)

abbrev pub said_of : uncut.Told → Said
said_of (uncut.accepted header bytes entries) = said.Accepted header
said_of (uncut.refused header bytes why) = said.FrameRefused header why
said_of (uncut.noise count) = said.Noise count

-- "A refusal returns its number and the old state, uses no input"
abbrev pub answer_of : Handed → Outcome → Answer
answer_of handed (refused why) = record { said = said.Refused why; used = 0; log = 0; tray = handed.tray; desk = handed.books.desk }
answer_of handed (told event contents used) = record {
  said = said_of (uncut.told_of handed.books handed.second event);
  used = used;
  log = length (uncut.entries_of (uncut.told_of handed.books handed.second event));
  tray = tray_of contents;
  desk = (uncut.books_after handed.books handed.second event).desk;
}
answer_of handed (hungry contents used) = record { said = said.Hungry; used = used; log = 0; tray = tray_of contents; desk = handed.books.desk }
answer_of handed (done contents) = record { said = said.Done; used = 0; log = 0; tray = tray_of contents; desk = handed.books.desk }

-- ---- and the lent buffers afterwards: "A refusal .. alters no lent byte", and neither does what is no frame; the tray's bytes are the stream's `bytes_of`

abbrev pub books_of : Handed → Outcome → Held
books_of handed (refused why) = handed.books
books_of handed (told event contents used) = uncut.books_after handed.books handed.second event
books_of handed (hungry contents used) = handed.books
books_of handed (done contents) = handed.books

-- the entries come first in the log; "parts of outputs beyond what is written stay as lent"
abbrev pub written : (entries log : List ℕ) → List ℕ
written entries log = entries ++ drop (length entries) log

abbrev pub log_of : Handed → Outcome → List ℕ
log_of handed (refused why) = handed.log
log_of handed (told event contents used) = written (uncut.entries_of (uncut.told_of handed.books handed.second event)) handed.log
log_of handed (hungry contents used) = handed.log
log_of handed (done contents) = handed.log

-- ---- what the caller sees: the answer, and the four lent buffers

pub record Result : Type 0 where
  pub answer : Answer
  pub bytes : List ℕ
  pub live : List ℕ
  pub run : List ℕ
  pub log : List ℕ

abbrev pub results : Answer → (bytes live run log : List ℕ) → Result
results answer bytes live run log = record { answer = answer; bytes = bytes; live = live; run = run; log = log }

abbrev pub result_of : Handed → Outcome → Result
result_of handed outcome =
    results (answer_of handed outcome) (bytes_of handed.bytes outcome)
    (books_of handed outcome).live (books_of handed outcome).run (log_of handed outcome)

abbrev pub by_call : Handed → (input : List ℕ) → Result
by_call handed input = result_of handed (call_outcome handed input)

abbrev pub by_finish : Handed → Result
by_finish handed = result_of handed (finish_outcome handed)

-- "Answer numbers": 0, but for a refusal, of the call or of the frame by the desk
abbrev pub number_of_said : Said → ℕ
number_of_said (said.Accepted header) = 0
number_of_said (said.FrameRefused header why) = number_of why.refusal
number_of_said (said.Noise count) = 0
number_of_said said.Hungry = 0
number_of_said said.Done = 0
number_of_said (said.Refused why) = number_of why
