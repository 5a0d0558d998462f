-- Definitions to believe: a desk that is given frames and kept books one after the other, and the live book as it was when the open run was opened. That is, here and wherever these
-- words stand, the live book as the frame that opened the run was handled with: after a gap an empty one.
use Rattle.std.specs.Prelude.{◌≡◌, Bool, true, false, List, [], ◌∷◌, ◌++◌, ℕ, Some, None}
use Rattle.area.specs.declared.AreaId.{AreaId}
use Rattle.book.specs.Book.{found}
use Rattle.book.specs.declared.Book.{Book}
use Rattle.entrylog.specs.Log.{opened, log_of}
use Rattle.desk.specs.Desk.{desk_sound}
use Rattle.desk.specs.Take.{Verdict, refused, defines, continues, opens, hands, verdict, leaving, hands_book, book_verdict, desk_by, live_by, run_bytes_by, entries_by}
use Rattle.desk.specs.declared.Desk.{Desk}
use Rattle.desk.specs.Results.{Run}

-- what a desk has between two frames: its state, and the bytes of the live book and of the run's
pub record Held : Type 0 where
  pub desk : Desk
  pub live : List ℕ
  pub run : List ℕ

-- what it is given next: a frame, with the second it came in and what is lent for its log, or a book that was read from its kept form
pub data Given : Type 0 where
  frame_with : (frame : List ℕ) (second : ℕ) (log : List ℕ) → Given
  kept_book : (book : Book) (bytes : List ℕ) → Given

abbrev pub verdict_on : Held → Given → Verdict
verdict_on held (frame_with frame second log) = verdict (hands held.desk frame second held.live held.run log)
verdict_on held (kept_book book bytes) = book_verdict (hands_book held.desk book bytes held.live held.run)

-- the desk with its books from which a verdict leaves what it leaves (`leaving` of Take.antt): of a frame that is taken, the desk by which it was handled, after a gap one with an
-- empty live book, with the frame's second; of one that is refused, the desk as it was
abbrev pub handled_at : Held → (second : ℕ) → Verdict → Held
handled_at held second v = record { desk = leaving held.desk second v; live = held.live; run = held.run }

abbrev pub handled_by : Held → Given → Verdict → Held
handled_by held (frame_with frame second log) v = handled_at held second v
handled_by held (kept_book book bytes) v = held

abbrev pub handled : Held → Given → Held
handled held given = handled_by held given (verdict_on held given)

abbrev pub held_by : Held → Verdict → Held
held_by held v = record { desk = desk_by held.desk v; live = live_by held.live v; run = run_bytes_by held.desk held.live held.run v }

-- what it has after it
abbrev pub after : Held → Given → Held
after held given = held_by (handled held given) (verdict_on held given)

-- a sound desk with its two books
abbrev pub held_sound : Held → Bool
held_sound held = desk_sound held.desk held.live held.run

-- the numbers that are added to the run log
abbrev pub entries_of : Held → Verdict → List ℕ
entries_of held v = entries_by held.desk held.live held.run v

-- a live book as it was at some moment
pub record Snapshot : Type 0 where
  pub book : Book
  pub bytes : List ℕ

-- the live book at the moment when the run was opened, as that frame was handled with: what the auditor asks for. Only a frame that opens a run sets it.
abbrev pub opening_by : Held → Snapshot → Verdict → Snapshot
opening_by held opening (refused why) = opening
opening_by held opening (defines book bytes) = opening
opening_by held opening (continues book message) = opening
opening_by held opening (opens tag message) = record { book = held.desk.book; bytes = held.live }

-- a desk along what it is given, with that moment's live book beside it
pub record Course : Type 0 where
  pub held : Held
  pub opening : Snapshot

abbrev pub onward : Course → Given → Course
onward course given =
    record {
      held = after course.held given;
      opening = opening_by (handled course.held given) course.opening (verdict_on course.held given);
    }

unfoldable pub along : Course → List Given → Course
along course [] = course
along course (given ∷ rest) = along (onward course given) rest

-- the log of a message by a live book: "1, tag, AIOU + 1 (0 without a book), count of areas" if it opens the run, then an entry 2 or 3 for each area
abbrev pub told_by : Snapshot → Verdict → List ℕ
told_by opening (refused why) = []
told_by opening (defines book bytes) = []
told_by opening (continues book message) = log_of opening.book opening.bytes message
told_by opening (opens tag message) = opened tag opening.book ++ log_of opening.book opening.bytes message

-- the run's book, if a run is open, is the live book as it was when the run was opened: under each ID the same six bytes
pub data Kept (run : List ℕ) (opening : Snapshot) : Run → Type 0 where
  closed : Kept run opening None
  kept : {tag : ℕ} {book : Book} → book ≡ opening.book → ((id : AreaId) → found book run id ≡ found book opening.bytes id) → Kept run opening (Some (record { tag = tag; book = book }))

abbrev pub KeptOn : Course → Type 0
KeptOn course = Kept course.held.run course.opening course.held.desk.run

-- none of what is given opens a run
abbrev pub is_opening : Verdict → Bool
is_opening (refused why) = false
is_opening (defines book bytes) = false
is_opening (continues book message) = false
is_opening (opens tag message) = true

pub data NoneOpens : Course → List Given → Type 0 where
  none : {course : Course} → NoneOpens course []
  more : {course : Course} {given : Given} {rest : List Given} → is_opening (verdict_on course.held given) ≡ false → NoneOpens (onward course given) rest → NoneOpens course (given ∷ rest)
