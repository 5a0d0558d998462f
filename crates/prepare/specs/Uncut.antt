-- Definitions to believe: document 01, "The stream" and "Book and run" together, for a whole stream, uncut, and the seconds that its frames came in: what is told of it, its
-- run log, and the desk with its two books that it leaves.
use Rattle.std.specs.Prelude.{◌≡◌, List, [], ◌∷◌, ◌++◌, ℕ, suc, ◌<◌}
use Rattle.answer.specs.declared.Fault.{Fault}
use Rattle.frame.specs.declared.Frame.{Frame}
use Rattle.frame.specs.Check.{checked}
use Rattle.stream.specs.Scan as stream
use Rattle.desk.specs.Take as desk
use Rattle.desk.specs.History.{Held, handled_at, held_by}

-- what is told of an event. Of a frame: its header, its bytes, and what the desk said of it: taken, with the bytes of the entries that it adds to the run
-- log, or refused
pub data Told : Type 0 where
  accepted : Frame → (bytes entries : List ℕ) → Told
  refused : Frame → (bytes : List ℕ) → Fault → Told
  noise : ℕ → Told

-- ---- "Each frame event goes to the desk in order"

-- what the desk makes of a frame's bytes, past ROOM and STATE: "the frame's own refusals, NOT_OURS, SEALED, .."; after a gap "with an empty live book"
unfoldable pub verdict_on : Held → (second : ℕ) → (bytes : List ℕ) → desk.Verdict
verdict_on books second bytes = desk.by_frame (desk.handling books.desk second) books.live (checked bytes) bytes

-- the desk with its books from which the frame's verdict leaves what it leaves (`handled_at` of the desk)
abbrev pub handled_on : Held → (second : ℕ) → (bytes : List ℕ) → Held
handled_on books second bytes = handled_at books second (verdict_on books second bytes)

abbrev pub entries_by : Held → desk.Verdict → List ℕ
entries_by books verdict = desk.logged_by books.desk books.live books.run verdict

-- "a refused frame adds none"
abbrev pub told_by : Held → Frame → (bytes : List ℕ) → desk.Verdict → Told
told_by books header bytes (desk.refused why) = refused header bytes why
told_by books header bytes (desk.defines book live) = accepted header bytes (entries_by books (desk.defines book live))
told_by books header bytes (desk.continues book message) = accepted header bytes (entries_by books (desk.continues book message))
told_by books header bytes (desk.opens tag message) = accepted header bytes (entries_by books (desk.opens tag message))

abbrev pub told_of : Held → (second : ℕ) → stream.Event → Told
told_of books second (stream.frame header bytes) = told_by (handled_on books second bytes) header bytes (verdict_on books second bytes)
told_of books second (stream.noise count) = noise count

-- the desk and the books then; noise does not reach the desk
abbrev pub books_after : Held → (second : ℕ) → stream.Event → Held
books_after books second (stream.frame header bytes) = held_by (handled_on books second bytes) (verdict_on books second bytes)
books_after books second (stream.noise count) = books

-- ---- events in order, each frame with its second

-- frame i of the stream, or of what is left of it, counted from 0, came in at `seconds i`
abbrev pub Seconds : Type 0
Seconds = ℕ → ℕ

-- "equal seconds": the first so many frames have, one by one, the same second in both
abbrev pub Alike : (frames : ℕ) → Seconds → Seconds → Type 0
Alike frames seconds seconds' = (i : ℕ) → i < frames → seconds i ≡ seconds' i

-- the seconds of the frames behind an event; noise has none
abbrev pub later : stream.Event → Seconds → Seconds
later (stream.frame header bytes) seconds = λ i. seconds (suc i)
later (stream.noise count) seconds = seconds

unfoldable pub told_all : Held → Seconds → List stream.Event → List Told
told_all books seconds [] = []
told_all books seconds (event ∷ events) = told_of books (seconds 0) event ∷ told_all (books_after books (seconds 0) event) (later event seconds) events

unfoldable pub books_all : Held → Seconds → List stream.Event → Held
books_all books seconds [] = books
books_all books seconds (event ∷ events) = books_all (books_after books (seconds 0) event) (later event seconds) events

-- "the run log is its entries joined, and a refused frame adds none"
abbrev pub entries_of : Told → List ℕ
entries_of (accepted header bytes entries) = entries
entries_of (refused header bytes why) = []
entries_of (noise count) = []

unfoldable pub run_log : List Told → List ℕ
run_log [] = []
run_log (told ∷ rest) = entries_of told ++ run_log rest

-- ---- the uncut stream, from a desk with its books

abbrev pub uncut_told : Held → Seconds → (bytes : List ℕ) → List Told
uncut_told books seconds bytes = told_all books seconds (stream.scan bytes)

abbrev pub uncut_log : Held → Seconds → (bytes : List ℕ) → List ℕ
uncut_log books seconds bytes = run_log (uncut_told books seconds bytes)

abbrev pub uncut_books : Held → Seconds → (bytes : List ℕ) → Held
uncut_books books seconds bytes = books_all books seconds (stream.scan bytes)
