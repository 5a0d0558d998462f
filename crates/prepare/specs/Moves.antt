-- Mirror: what the steps of a call return, by what the stream says. Serves proofs.
use Rattle.std.specs.Prelude.{◌≡◌, Bool, true, false, cond, List, ℕ, length, take, Ok, Err}
use Rattle.answer.specs.declared.Refusal.TheVariants as refusal
use Rattle.frame.specs.declared.Frame.{Frame}
use Rattle.frame.specs.declared.Checked.TheVariants.{Accepted}
use Rattle.frame.specs.Check.{checked}
use Rattle.stream.specs.Scan.{Event, frame}
use Rattle.stream.specs.Tray.{call_answer, call_bytes, finish_answer, finish_bytes}
use Rattle.stream.specs.declared.Tray.{Tray}
use Rattle.stream.specs.declared.Said as stream-said
use Rattle.stream.specs.declared.Said.TheVariants as hears
use Rattle.stream.specs.declared.Answer as stream-answer
use Rattle.desk.specs.declared.Desk.{Desk}
use Rattle.desk.specs.Desk.{desk_sound}
use Rattle.desk.specs.Results as desk-said
use Rattle.desk.specs.declared.Taken.{Taken}
use Rattle.desk.specs.History.{Held}
use Rattle.prepare.specs.declared.Said.{Said}
use Rattle.prepare.specs.declared.Said.TheVariants as said
use Rattle.prepare.specs.declared.Answer.{Answer}
use Rattle.prepare.specs.Results.{Tested}
use Rattle.prepare.specs.Uncut.{told_of, books_after, entries_of}
use Rattle.prepare.specs.Prepare.{lacks_room, said_of, written, Result, results}

-- ---- ROOM of every lent buffer, and STATE of the desk; that of the tray is the stream's to say

unfoldable pub tested_of : (bytes : List ℕ) → Held → (log : List ℕ) → Tested
tested_of bytes books log =
    cond (lacks_room bytes books.live books.run log) (Err refusal.Room)
    (cond (desk_sound books.desk books.live books.run) (Ok tt) (Err refusal.State))

-- ---- the stream's step, on a portion or at its end

abbrev pub listened_answer : (ended : Bool) → List ℕ → Tray → List ℕ → stream-answer.Answer
listened_answer true bytes tray input = finish_answer bytes tray
listened_answer false bytes tray input = call_answer bytes tray input

abbrev pub listened_bytes : (ended : Bool) → List ℕ → Tray → List ℕ → List ℕ
listened_bytes true bytes tray input = finish_bytes bytes tray
listened_bytes false bytes tray input = call_bytes bytes tray input

-- ---- what the desk said of a frame

abbrev pub said_with : Frame → desk-said.Said → Said
said_with header (Ok log) = said.Accepted header
said_with header (Err why) = said.FrameRefused header why

abbrev pub log_with : desk-said.Said → ℕ
log_with (Ok log) = log
log_with (Err why) = 0

abbrev pub taken : stream-answer.Answer → Frame → Taken → Answer
taken heard header t = record { said = said_with header t.said; used = heard.used; log = log_with t.said; tray = heard.tray; desk = t.desk }

-- the desk is as it was
abbrev pub untaken : stream-answer.Answer → Said → Desk → Answer
untaken heard said desk = record { said = said; used = heard.used; log = 0; tray = heard.tray; desk = desk }

-- ---- what the stream said moves the desk on: a frame lies first in the tray

abbrev pub lying : Frame → (bytes : List ℕ) → Event
lying header bytes = frame header (take header.length bytes)

abbrev pub framed : Held → (second : ℕ) → stream-answer.Answer → Frame → (bytes : List ℕ) → Answer
framed books second heard header bytes = record {
  said = said_of (told_of books second (lying header bytes));
  used = heard.used;
  log = length (entries_of (told_of books second (lying header bytes)));
  tray = heard.tray;
  desk = (books_after books second (lying header bytes)).desk;
}

-- what is no frame is said as it is
abbrev pub passed_on : stream-said.Said → Said
passed_on (hears.Frame header) = said.Accepted header
passed_on (hears.Noise count) = said.Noise count
passed_on hears.Hungry = said.Hungry
passed_on hears.Done = said.Done
passed_on (hears.Refused why) = said.Refused why

abbrev pub moved_answer : Held → (second : ℕ) → stream-answer.Answer → stream-said.Said → (bytes : List ℕ) → Answer
moved_answer books second heard (hears.Frame header) bytes = framed books second heard header bytes
moved_answer books second heard (hears.Noise count) bytes = untaken heard (said.Noise count) books.desk
moved_answer books second heard hears.Hungry bytes = untaken heard said.Hungry books.desk
moved_answer books second heard hears.Done bytes = untaken heard said.Done books.desk
moved_answer books second heard (hears.Refused why) bytes = untaken heard (said.Refused why) books.desk

abbrev pub moved_books : Held → (second : ℕ) → stream-said.Said → (bytes : List ℕ) → Held
moved_books books second (hears.Frame header) bytes = books_after books second (lying header bytes)
moved_books books second (hears.Noise count) bytes = books
moved_books books second hears.Hungry bytes = books
moved_books books second hears.Done bytes = books
moved_books books second (hears.Refused why) bytes = books

abbrev pub moved_log : Held → (second : ℕ) → stream-said.Said → (bytes log : List ℕ) → List ℕ
moved_log books second (hears.Frame header) bytes log = written (entries_of (told_of books second (lying header bytes))) log
moved_log books second (hears.Noise count) bytes log = log
moved_log books second hears.Hungry bytes log = log
moved_log books second hears.Done bytes log = log
moved_log books second (hears.Refused why) bytes log = log

-- the answer and every lent byte are these
abbrev pub moved : Held → (second : ℕ) → stream-answer.Answer → stream-said.Said → (bytes log : List ℕ) → Result
moved books second heard s bytes log =
    results (moved_answer books second heard s bytes) bytes (moved_books books second s bytes).live (moved_books books second s bytes).run (moved_log books second s bytes log)

-- a frame that is told was checked, and lies first
abbrev pub Lies : stream-said.Said → (bytes : List ℕ) → Type 0
Lies (hears.Frame header) bytes = checked (take header.length bytes) ≡ Accepted header
Lies (hears.Noise count) bytes = Unit {0}
Lies hears.Hungry bytes = Unit {0}
Lies hears.Done bytes = Unit {0}
Lies (hears.Refused why) bytes = Unit {0}
