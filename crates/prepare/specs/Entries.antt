-- Definitions to believe: the entries of the run log of a whole stream, uncut, its frames at their seconds (document 01, "Log and kept book").
use Rattle.std.specs.Prelude.{List, [], ◌∷◌, ◌++◌, ℕ}
use Rattle.stream.specs.Scan.{Event, frame, noise, scan}
use Rattle.entries.specs.Entry.{Entry}
use Rattle.desk.specs.History.{Held, Snapshot}
use Rattle.desk.specs.Entries as desk
use Rattle.prepare.specs.Uncut.{verdict_on, books_after, Seconds, later}
use Rattle.prepare.specs.Placed.{opening_after}

-- those that an event adds, its message by the live book as it was when its run was opened (`entries_under` of the desk)
abbrev pub entries_for : Snapshot → Held → (second : ℕ) → Event → List Entry
entries_for opening books second (frame header bytes) = desk.entries_under opening (verdict_on books second bytes)
entries_for opening books second (noise count) = []

unfoldable pub entries_all : Held → Seconds → Snapshot → List Event → List Entry
entries_all books seconds opening [] = []
entries_all books seconds opening (event ∷ events) =
    entries_for (opening_after books (seconds 0) opening event) books (seconds 0) event
    ++ entries_all (books_after books (seconds 0) event) (later event seconds) (opening_after books (seconds 0) opening event) events

abbrev pub uncut_entries : Held → Seconds → Snapshot → (bytes : List ℕ) → List Entry
uncut_entries books seconds opening bytes = entries_all books seconds opening (scan bytes)
