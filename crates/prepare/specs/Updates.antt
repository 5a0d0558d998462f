-- Theorems (document 02, request 5, "One solution update per book"), for every stream, every seconds of its frames and every cutting into portions: a block is placed only if the run's book has
-- its message's SIOU, and none is by a run's book of unknown SIOU (`one-update`); the live book's SIOU at the end is that of the GAD that began it, or of the starting book, and unknown where
-- a gap emptied it (`siou-from`); at each step of the uncut stream, the book of a run that is opened is the live book as it is then (`opened-siou`). Proved; assumes nothing.
use Rattle.std.specs.Prelude.{◌≡◌, refl, true, ℕ, suc}
use Rattle.std.proofs.Common.{ap, ◌∙◌, subst}
use Rattle.std.proofs.lemmas.Bool.{false≢true}
use mathlib.Core.List.{List, [], ◌∷◌, ◌++◌, flatten}
use Rattle.frame.specs.declared.Frame.{Frame}
use Rattle.stream.specs.Scan.{Event, frame, noise, scan}
use Rattle.stream.specs.Driver.{Caller, Clear}
use Rattle.book.specs.declared.Book.{Book}
use Rattle.desk.specs.History.{Held, Snapshot, handled_at, held_by, opening_by, is_opening, KeptOn}
use Rattle.entries.specs.Entry.{joined, bytes_of}
use Rattle.entrylog.specs.Updates.{NonePlaced}
use Rattle.desk.specs.Take.{Verdict, refused, defines, continues, opens}
use Rattle.desk.specs.Entries.{entries_under}
use Rattle.desk.specs.Updates.{Agrees, agrees, unknown-none, Origin, starting, siou_of, origin_by, siou-step}
use Rattle.prepare.specs.Uncut.{verdict_on, books_after, Seconds, later, books_all, run_log}
use Rattle.prepare.specs.Driver.{Sound, Whole}
use Rattle.prepare.specs.Placed.{opening_after}
use Rattle.prepare.specs.Stays.{given, verdict-is, sound-after}
use Rattle.prepare.specs.Entries.{uncut_entries}
use Rattle.prepare.specs.Theorems.{prepared, in-force}
use Rattle.prepare.specs.Display.{placed-bytes}

-- ---- which blocks are placed

-- the entries that an event adds to the run log, by the book of its run, place a block only if that book has the SIOU of the block's message (`Agrees` of the desk), and none if its SIOU is
-- unknown
abbrev pub AgreesOn : Snapshot → Held → (second : ℕ) → Event → Type 0
AgreesOn opening books second (frame header bytes) =
    Agrees opening (verdict_on books second bytes) × (opening.book.siou_plus_one ≡ 0 → NonePlaced (entries_under opening (verdict_on books second bytes)))
AgreesOn opening books second (noise count) = Unit {0}

abbrev pub AllAgree : Held → Seconds → Snapshot → List Event → Type 0
AllAgree books seconds opening [] = Unit {0}
AllAgree books seconds opening (event ∷ events) =
    AgreesOn (opening_after books (seconds 0) opening event) books (seconds 0) event
    × AllAgree (books_after books (seconds 0) event) (later event seconds) (opening_after books (seconds 0) opening event) events

pub all-agree : (books : Held) (seconds : Seconds) (opening : Snapshot) (events : List Event) → AllAgree books seconds opening events
all-agree books seconds opening [] = tt
all-agree books seconds opening (noise n ∷ events) = (tt, all-agree books seconds opening events)
all-agree books seconds opening (frame f b ∷ events) = (
  (
    agrees (opening_after books (seconds 0) opening (frame f b)) (verdict_on books (seconds 0) b),
    λ e. unknown-none (opening_after books (seconds 0) opening (frame f b)) e (verdict_on books (seconds 0) b),
  ),
  all-agree (books_after books (seconds 0) (frame f b)) (λ i. seconds (suc i)) (opening_after books (seconds 0) opening (frame f b)) events,
)

-- ---- where the live book's SIOU comes from

abbrev pub origin_after : Held → Origin → (second : ℕ) → Event → Origin
origin_after books origin second (frame header bytes) = origin_by books origin (given bytes second) (verdict_on books second bytes)
origin_after books origin second (noise count) = origin

unfoldable pub origin_all : Held → Seconds → Origin → List Event → Origin
origin_all books seconds origin [] = origin
origin_all books seconds origin (event ∷ events) = origin_all (books_after books (seconds 0) event) (later event seconds) (origin_after books origin (seconds 0) event) events

siou-all : (books : Held) → Sound books → (seconds : Seconds) (origin : Origin) (start : Book) (events : List Event) → books.desk.book.siou_plus_one ≡ siou_of start origin
    → (books_all books seconds events).desk.book.siou_plus_one ≡ siou_of start (origin_all books seconds origin events)
unfolding books_all origin_all
siou-all books s seconds origin start [] k = k
siou-all books s seconds origin start (noise n ∷ events) k = siou-all books s seconds origin start events k
siou-all books s seconds origin start (frame f b ∷ events) k =
    siou-all (books_after books (seconds 0) (frame f b)) (sound-after s (seconds 0) (frame f b)) (λ i. seconds (suc i)) (origin_after books origin (seconds 0) (frame f b)) start events
    (subst (λ v. (held_by (handled_at books (seconds 0) v) v).desk.book.siou_plus_one ≡ siou_of start (origin_by books origin (given b (seconds 0)) v)) (verdict-is books s (seconds 0) b)
    (siou-step books origin start (given b (seconds 0)) k))

-- The book of a run that a frame opens is the live book as it is then, so its SIOU comes from there too.
pub opened-siou : (books : Held) (second : ℕ) (opening : Snapshot) (f : Frame) (b : List ℕ) → is_opening (verdict_on books second b) ≡ true
    → (opening_after books second opening (frame f b)).book ≡ (books_after books second (frame f b)).desk.book
opened-siou books second opening f b = go (verdict_on books second b)
  where
    go : (v : Verdict) → is_opening v ≡ true → (opening_by (handled_at books second v) opening v).book ≡ (held_by (handled_at books second v) v).desk.book
    go (refused why) e = absurd (false≢true e)
    go (defines book bytes) e = absurd (false≢true e)
    go (continues book message) e = absurd (false≢true e)
    go (opens tag message) e = refl

-- ---- however the stream is cut

module _ {tray : List ℕ} (clear : Clear tray) {books : Held} (sound : Sound books) {c : Caller} {seconds : Seconds} {portions : List (List ℕ)} (w : Whole c seconds tray books portions) where
  -- The run log is the bytes of the entries that the uncut stream's events add, each by the book of its run, and of these a block is placed only if that book has the SIOU of the block's
  -- message.
  pub one-update : (opening : Snapshot) → KeptOn (record { held = books; opening = opening })
      → (run_log (w.before ++ w.after) ≡ joined bytes_of (uncut_entries books seconds opening (flatten portions))) × AllAgree books seconds opening (scan (flatten portions))
  one-update opening k = (
    (in-force clear sound opening k w).0 ∙ placed-bytes (record { held = books; opening = opening }) sound seconds (scan (flatten portions)),
    all-agree books seconds opening (scan (flatten portions)),
  )

  -- The SIOU of the live book that is left.
  pub siou-from : w.end.books.desk.book.siou_plus_one ≡ siou_of books.desk.book (origin_all books seconds starting (scan (flatten portions)))
  siou-from =
      ap (λ (held : Held). held.desk.book.siou_plus_one) (ap (λ s. s.books) (prepared clear sound w).2)
      ∙ siou-all books sound seconds starting books.desk.book (scan (flatten portions)) refl
