-- Definitions to believe: document 01, "Book and run": what a desk makes of a frame, in the order of its checks, and what it leaves; and document 02, request 1, "Old grid after a radio gap".
use Rattle.std.specs.Prelude.{Bool, true, false, cond, not, ◌&&◌, ◌||◌, List, [], ◌++◌, ℕ, ◌-◌, ◌*◌, ◌%◌, leb, ltb, eqb, length, take, drop, Ok, Err, Some, None}
use Rattle.sizes.specs.Sizes.{tags, book_bytes, log_room}
use Rattle.answer.specs.Number.{number_of_answer}
use Rattle.answer.specs.Stop.{stop}
use Rattle.answer.specs.Place.{nowhere}
use Rattle.answer.specs.declared.Fault as answer
use Rattle.answer.specs.declared.Refusal.TheVariants as refusal
use Rattle.codes.specs.Tables.{row_of}
use Rattle.codes.specs.declared.Constellation.{Constellation}
use Rattle.frame.specs.Check.{checked, payload_in}
use Rattle.frame.specs.declared.Frame.{Frame}
use Rattle.frame.specs.Results.{Seal}
use Rattle.frame.specs.declared.Checked.{Checked}
use Rattle.frame.specs.declared.Checked.TheVariants as check
use Rattle.layout.specs.Layout as layout
use Rattle.hpac.specs.Hpac.{Hpac}
use Rattle.message.specs.Messages.{Message, ocb_message, hpac_message, gad_message, bpac_message}
use Rattle.sheet.specs.Sheet.{judging}
use Rattle.book.specs.Book.{no_book, sound}
use Rattle.book.specs.Take.{taken_of, bytes_after}
use Rattle.book.specs.declared.Book.{Book}
use Rattle.book.specs.Results as took
use Rattle.groups.specs.Groups.{groups_of_all}
use Rattle.entrylog.specs.Log.{opened, log_of}
use Rattle.desk.specs.Desk.{desk_with, desk_sound}
use Rattle.desk.specs.declared.Desk.{Desk}
use Rattle.desk.specs.Results.{Last}
use Rattle.desk.specs.Results.{Run}
use Rattle.desk.specs.Results.{Said}
use Rattle.desk.specs.declared.Taken.{Taken}

-- ---- what a call is given: the desk, the frame and "the second it came in", and lent the live book, the run's book and a log

pub record Handed : Type 0 where
  pub desk : Desk
  pub frame : List ℕ
  pub second : ℕ
  pub live : List ℕ
  pub run : List ℕ
  pub log : List ℕ

abbrev pub hands : Desk → (frame : List ℕ) → (second : ℕ) → (live run log : List ℕ) → Handed
hands desk frame second live run log = record { desk = desk; frame = frame; second = second; live = live; run = run; log = log }

-- ---- what a frame is to a desk

pub data Verdict : Type 0 where
  -- not taken; a fault of the payload with its place, as the reader gives it
  refused : answer.Fault → Verdict
  -- a GAD: the live book that it leaves, and its bytes
  defines : (book : Book) (bytes : List ℕ) → Verdict
  -- an HPAC message of the open run, whose book is this one
  continues : (book : Book) (message : Hpac) → Verdict
  -- an HPAC message that opens a run with this tag
  opens : (tag : ℕ) (message : Hpac) → Verdict

-- for HPAC: "A tag other than the open run's, earlier ones too, opens a run"
abbrev pub by_run : Run → (tag : ℕ) → Hpac → Verdict
by_run None tag message = opens tag message
by_run (Some p) tag message = cond (eqb tag p.tag) (continues p.book message) (opens tag message)

-- TAG: "16-bit time tag over 43,199"
abbrev pub bad_tag : Frame → Bool
bad_tag header = eqb header.tag_kind 0 && leb tags header.tag

-- "An HPAC tag is taken modulo 43,200."
abbrev pub tag_of : Frame → ℕ
tag_of header = header.tag % tags

-- for GAD "the book's refusals", or the live book that is left
abbrev pub by_book : took.Taken → List ℕ → Verdict
by_book (Ok book) bytes = defines book bytes
by_book (Err why) bytes = refused why

-- "then for HPAC TAG, for GAD the book's refusals (a GAD's tag does not count)"; no other payload comes as far as here
abbrev pub by_message : Desk → (live : List ℕ) → Frame → (payload : List ℕ) → Message → Verdict
by_message desk live header payload (hpac_message constellation body) = stop (bad_tag header) (refused (nowhere refusal.Tag)) (by_run desk.run (tag_of header) body)
by_message desk live header payload (gad_message body) = by_book (taken_of desk.book live payload) (bytes_after desk.book live payload)
by_message desk live header payload (ocb_message constellation body) = refused (nowhere refusal.NotOurs)
by_message desk live header payload (bpac_message body) = refused (nowhere refusal.NotOurs)

-- "payload refusals": "Every call above passes the place on as it got it." (document 02, request 2)
abbrev pub by_payload : Desk → (live : List ℕ) → Frame → (payload : List ℕ) → layout.Outcome Message → Verdict
by_payload desk live header payload (layout.accepted message codes bits) = by_message desk live header payload message
by_payload desk live header payload (layout.refused why) = refused why

-- "Its payload types are GAD and that constellation's HPAC.": 2-0, and 1 with the constellation's subtype
abbrev pub our_type : Constellation → (kind subtype : ℕ) → Bool
our_type constellation kind subtype = (eqb kind 2 && eqb subtype 0) || (eqb kind 1 && eqb subtype (row_of constellation))

-- not NOT_OURS, which is: "other solution, processor or payload type"
abbrev pub ours : Desk → Frame → Bool
ours desk header =
    eqb header.solution desk.solution
    && (eqb header.processor desk.processor && our_type desk.constellation header.message_type header.subtype)

-- SEALED: "TF004 is 1, payload wanted"
abbrev pub is_sealed : Seal → Bool
is_sealed None = false
is_sealed (Some sealing) = true

-- "NOT_OURS, SEALED, payload refusals, .."
unfoldable pub by_header : Desk → (live : List ℕ) → Frame → (payload : List ℕ) → Verdict
by_header desk live header payload =
    stop (not (ours desk header)) (refused (nowhere refusal.NotOurs))
    (stop (is_sealed header.seal) (refused (nowhere refusal.Sealed))
    (by_payload desk live header payload (judging header.message_type header.subtype payload)))

-- "the frame's own refusals, .."
abbrev pub by_frame : Desk → (live : List ℕ) → Checked → (frame : List ℕ) → Verdict
by_frame desk live (check.Accepted header) frame = by_header desk live header (payload_in header frame)
by_frame desk live (check.Short wanted) frame = refused (nowhere refusal.Short)
by_frame desk live (check.Refused why) frame = refused (nowhere why)

-- ---- document 02, request 1: "Each frame is now handed to the desk with the second it came in."

-- the seconds of outage after which "an AIOU must be taken as changed" (SF068)
abbrev pub outage : ℕ
outage = 450

-- the second as it counts: "A second earlier than the last accepted frame's counts as that one."
abbrev pub counted : Last → (second : ℕ) → ℕ
counted None second = second
counted (Some last) second = cond (ltb second last) last second

-- the seconds that have passed since that frame: "Before the first accepted frame no time counts as passed."
abbrev pub passed : Last → (second : ℕ) → ℕ
passed None second = 0
passed (Some last) second = counted (Some last) second - last

-- "If 450 or more have passed since the last accepted frame of ours, .."
unfoldable pub is_gap : Last → (second : ℕ) → Bool
is_gap last second = leb outage (passed last second)

-- ".. this frame is judged and handled with an empty live book": the desk by which that is done. "An open run keeps its copy."
abbrev pub handling : Desk → (second : ℕ) → Desk
handling desk second = desk_with desk (cond (is_gap desk.last second) no_book desk.book) desk.run

-- ROOM: "lent buffer under its stated size"
unfoldable pub lacks_room : (live run log : List ℕ) → Bool
lacks_room live run log = ltb (length live) book_bytes || (ltb (length run) book_bytes || ltb (length log) log_room)

-- "Order: ROOM, STATE, the frame's own refusals, NOT_OURS, SEALED, payload refusals, then for HPAC TAG, for GAD the book's refusals". ROOM and STATE are asked of the desk as lent.
unfoldable pub verdict : Handed → Verdict
verdict handed =
    stop (lacks_room handed.live handed.run handed.log) (refused (nowhere refusal.Room))
    (stop (not (desk_sound handed.desk handed.live handed.run)) (refused (nowhere refusal.State))
    (by_frame (handling handed.desk handed.second) handed.live (checked handed.frame) handed.frame))

-- ---- what a verdict leaves: "A refusal returns its number and the old state, .. and alters no lent byte"

-- "the book is copied to the run's book. In both books only bytes of areas held are written."
abbrev pub copied : Book → (from to : List ℕ) → List ℕ
copied book from to = take (6 * book.count) from ++ drop (6 * book.count) to

-- the run that is open then
abbrev pub run_by : Desk → Verdict → Run
run_by desk (refused why) = desk.run
run_by desk (defines book bytes) = desk.run
run_by desk (continues book message) = desk.run
run_by desk (opens tag message) = Some (record { tag = tag; book = desk.book })

-- the live book
abbrev pub book_by : Desk → Verdict → Book
book_by desk (refused why) = desk.book
book_by desk (defines book bytes) = book
book_by desk (continues book message) = desk.book
book_by desk (opens tag message) = desk.book

abbrev pub desk_by : Desk → Verdict → Desk
desk_by desk v = desk_with desk (book_by desk v) (run_by desk v)

-- the bytes of the live book, and of the run's
abbrev pub live_by : (live : List ℕ) → Verdict → List ℕ
live_by live (refused why) = live
live_by live (defines book bytes) = bytes
live_by live (continues book message) = live
live_by live (opens tag message) = live

abbrev pub run_bytes_by : Desk → (live run : List ℕ) → Verdict → List ℕ
run_bytes_by desk live run (refused why) = run
run_bytes_by desk live run (defines book bytes) = run
run_bytes_by desk live run (continues book message) = run
run_bytes_by desk live run (opens tag message) = copied desk.book live run

-- the numbers of the entries that the frame adds to the run log: "1, tag, ..: run opened", then those of the areas by the run's book
abbrev pub entries_by : Desk → (live run : List ℕ) → Verdict → List ℕ
entries_by desk live run (refused why) = []
entries_by desk live run (defines book bytes) = []
entries_by desk live run (continues book message) = log_of book run message
entries_by desk live run (opens tag message) = opened tag desk.book ++ log_of desk.book (copied desk.book live run) message

-- their bytes
unfoldable pub logged_by : Desk → (live run : List ℕ) → Verdict → List ℕ
logged_by desk live run v = groups_of_all (entries_by desk live run v)

abbrev pub log_by : Desk → (live run log : List ℕ) → Verdict → List ℕ
log_by desk live run log v = logged_by desk live run v ++ drop (length (logged_by desk live run v)) log

-- the answer: OK with the log bytes written, or the refusal with its place
abbrev pub said_by : Verdict → (logged : ℕ) → Said
said_by (refused why) logged = Err why
said_by (defines book bytes) logged = Ok logged
said_by (continues book message) logged = Ok logged
said_by (opens tag message) logged = Ok logged

-- the answer and the desk then
abbrev pub taken_by : Desk → (live run : List ℕ) → Verdict → Taken
taken_by desk live run v = record { said = said_by v (length (logged_by desk live run v)); desk = desk_by desk v }

-- ---- what `take` answers, and its lent buffers afterwards

pub record Result : Type 0 where
  pub answer : Taken
  pub live : List ℕ
  pub run : List ℕ
  pub log : List ℕ

abbrev pub results : Taken → (live run log : List ℕ) → Result
results answer live run log = record { answer = answer; live = live; run = run; log = log }

abbrev pub result_by : Desk → (live run log : List ℕ) → Verdict → Result
result_by desk live run log v =
    results (taken_by desk live run v) (live_by live v) (run_bytes_by desk live run v) (log_by desk live run log v)

-- the same desk with another second of the last accepted frame
abbrev pub dated : Desk → Last → Desk
dated desk last =
    record { solution = desk.solution; processor = desk.processor; constellation = desk.constellation; book = desk.book; run = desk.run; last = last }

-- the desk that handled a frame which it takes, with this frame's second, as it counts, for the last accepted one's
abbrev pub accepting : Desk → (second : ℕ) → Desk
accepting desk second = dated (handling desk second) (Some (counted desk.last second))

-- the desk from which a verdict leaves what it leaves: "if it is refused, the old book stays", and the old second
abbrev pub leaving : Desk → (second : ℕ) → Verdict → Desk
leaving desk second (refused why) = desk
leaving desk second (defines book bytes) = accepting desk second
leaving desk second (continues book message) = accepting desk second
leaving desk second (opens tag message) = accepting desk second

abbrev pub leaving_by : Handed → Desk
leaving_by handed = leaving handed.desk handed.second (verdict handed)

-- what a verdict leaves so, and what `take` leaves
abbrev pub settled_by : Desk → (second : ℕ) → (live run log : List ℕ) → Verdict → Result
settled_by desk second live run log v = result_by (leaving desk second v) live run log v

unfoldable pub frame_taken : Handed → Result
frame_taken handed = settled_by handed.desk handed.second handed.live handed.run handed.log (verdict handed)

-- the same of what another desk answered and left of the frame: its second is kept if it was taken; beside a refusal the desk is as lent
abbrev pub settled_as : Desk → (second : ℕ) → Said → (left : Desk) → Taken
settled_as desk second (Ok log) left = record { said = Ok log; desk = dated left (Some (counted desk.last second)) }
settled_as desk second (Err why) left = record { said = Err why; desk = desk }

abbrev pub settled : Desk → (second : ℕ) → Taken → Taken
settled desk second answer = settled_as desk second (answer).said (answer).desk

abbrev pub with_second : Desk → (second : ℕ) → Result → Result
with_second desk second left = results (settled desk second left.answer) left.live left.run left.log

-- the answer's number in document 01
abbrev pub number_of_said : Said → ℕ
number_of_said = number_of_answer (λ fault. fault.refusal)

-- ---- a book that was read from its kept form, in bytes of its own, is taken as the live book; an open run and the last second stay as they are

pub record BookHanded : Type 0 where
  pub desk : Desk
  pub book : Book
  pub bytes : List ℕ
  pub live : List ℕ
  pub run : List ℕ

abbrev pub hands_book : Desk → Book → (bytes live run : List ℕ) → BookHanded
hands_book desk book bytes live run = record { desk = desk; book = book; bytes = bytes; live = live; run = run }

-- ROOM of all three slices of bytes
abbrev pub no_book_room : (bytes live run : List ℕ) → Bool
no_book_room bytes live run =
    ltb (length bytes) book_bytes || (ltb (length live) book_bytes || ltb (length run) book_bytes)

unfoldable pub book_verdict : BookHanded → Verdict
book_verdict handed =
    stop (no_book_room handed.bytes handed.live handed.run) (refused (nowhere refusal.Room))
    (stop (not (desk_sound handed.desk handed.live handed.run && sound handed.book handed.bytes)) (refused (nowhere refusal.State))
    (defines handed.book (copied handed.book handed.bytes handed.live)))

-- the answer and the live book's bytes then
pub record BookResult : Type 0 where
  pub answer : Taken
  pub live : List ℕ

abbrev pub results_book : Taken → (live : List ℕ) → BookResult
results_book answer live = record { answer = answer; live = live }

abbrev pub book_result_by : Desk → (live run : List ℕ) → Verdict → BookResult
book_result_by desk live run v = results_book (taken_by desk live run v) (live_by live v)

unfoldable pub book_taken : BookHanded → BookResult
book_taken handed = book_result_by handed.desk handed.live handed.run (book_verdict handed)
