-- Definitions to believe: the run log with each residual placed by the area definition in force when its run opened: the live book as it was at that moment,
-- as the frame that opened the run was handled with (after a gap an empty one).
use Rattle.std.specs.Prelude.{List, [], ◌∷◌, ◌++◌, ℕ}
use Rattle.groups.specs.Groups.{groups_of_all}
use Rattle.stream.specs.Scan.{Event, frame, noise}
use Rattle.desk.specs.History as desk
use Rattle.prepare.specs.Uncut.{verdict_on, handled_on, books_after, Seconds, later}

-- the live book at the moment when the open run was opened: only a frame that opens a run sets it (`opening_by` of the desk)
abbrev pub opening_after : desk.Held → (second : ℕ) → desk.Snapshot → Event → desk.Snapshot
opening_after books second opening (frame header bytes) = desk.opening_by (handled_on books second bytes) opening (verdict_on books second bytes)
opening_after books second opening (noise count) = opening

-- the bytes of the entries that an event adds, its message told by that book (`told_by` of the desk)
abbrev pub entries_under : desk.Snapshot → desk.Held → (second : ℕ) → Event → List ℕ
entries_under opening books second (frame header bytes) = groups_of_all (desk.told_by opening (verdict_on books second bytes))
entries_under opening books second (noise count) = []

unfoldable pub placed_log : desk.Held → Seconds → desk.Snapshot → List Event → List ℕ
placed_log books seconds opening [] = []
placed_log books seconds opening (event ∷ events) =
    entries_under (opening_after books (seconds 0) opening event) books (seconds 0) event
    ++ placed_log (books_after books (seconds 0) event) (later event seconds) (opening_after books (seconds 0) opening event) events

-- that live book once a whole stream is told
unfoldable pub opening_all : desk.Held → Seconds → desk.Snapshot → List Event → desk.Snapshot
opening_all books seconds opening [] = opening
opening_all books seconds opening (event ∷ events) =
    opening_all (books_after books (seconds 0) event) (later event seconds) (opening_after books (seconds 0) opening event) events
