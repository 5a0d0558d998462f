-- Laws: what the desk writes of each event reads entry by entry to its end, so in words the texts of what is told are the lines of the entries of its run log. Proved.
use Rattle.std.specs.Prelude.{◌≡◌, refl, false, List, [], ◌∷◌, ◌++◌, ℕ, zero, suc, replicate}
use Rattle.std.proofs.Common.{sym, ap, ap₂, ◌∙◌, subst, arith, lit≤}
use Rattle.bits.specs.Bits.{Bytes}
use Rattle.bits.specs.Laws.{bytes-none, bytes-cons}
use Rattle.text.specs.Text.{Short}
use Rattle.text.specs.Output.{short-more}
use Rattle.sizes.specs.Sizes.{log_room}
use Rattle.frame.specs.declared.Frame.{Frame}
use Rattle.stream.specs.Scan.{Event, frame, noise}
use Rattle.entries.specs.Entry.{Entry, joined, bytes_of}
use Rattle.entries.specs.Ends.{ReadsAs, AllEntries}
use Rattle.entries.specs.Theorems.{log-reads}
use Rattle.groups.specs.Groups.{groups_of_all}
use Rattle.entrylog.specs.Lists.{joined-append, all_append}
use Rattle.words.specs.Lines.{each, texts_of}
use Rattle.words.specs.Log.{texts_of_log}
use Rattle.words.specs.Lengths.{lines-short}
use Rattle.words.specs.Theorems.{reads-told, each_append}
use Rattle.desk.specs.Take as desk
use Rattle.desk.specs.History as history
use Rattle.desk.specs.History.{Held, Given, Course, onward, handled_at, held_by, KeptOn}
use Rattle.desk.specs.Entries.{entries_under, BooksInBytes}
use Rattle.desk.specs.Display.{written-under, entries-under, books-stay}
use Rattle.desk.specs.Theorems.{stays-kept}
use Rattle.prepare.specs.Uncut as uncut
use Rattle.prepare.specs.Uncut.{verdict_on, handled_on, entries_by, told_by, told_of, books_after, Seconds, told_all, entries_of, run_log}
use Rattle.prepare.specs.Driver.{Sound}
use Rattle.prepare.specs.Stays.{given, verdict-is, sound-after}
use Rattle.runlog.specs.Telling.{logs_of}

-- ---- what is told, of which each log is entries

abbrev pub AreEntries : (log : List ℕ) → Type 0
AreEntries log = (entries : List Entry) × AllEntries entries × (log ≡ joined bytes_of entries)

abbrev pub AllRead : List uncut.Told → Type 0
AllRead [] = Unit {0}
AllRead (told ∷ rest) = AreEntries (entries_of told) × AllRead rest

abbrev pub all_in : (ts : List uncut.Told) → AllRead ts → List Entry
all_in [] r = []
all_in (t ∷ ts) r = r.0.0 ++ all_in ts r.1

all-entries : (ts : List uncut.Told) (r : AllRead ts) → AllEntries (all_in ts r)
all-entries [] r = tt
all-entries (t ∷ ts) r = all_append r.0.0 (all_in ts r.1) r.0.1 (all-entries ts r.1)

all-bytes : (ts : List uncut.Told) (r : AllRead ts) → run_log ts ≡ joined bytes_of (all_in ts r)
unfolding run_log
all-bytes [] r = refl
all-bytes (t ∷ ts) r = ap₂ (λ a b. a ++ b) r.0.2 (all-bytes ts r.1) ∙ sym (joined-append bytes_of r.0.0 (all_in ts r.1))

-- the run log reads to its end, as all of them
pub log-read : (ts : List uncut.Told) (r : AllRead ts) → ReadsAs (run_log ts) (all_in ts r)
log-read ts r = subst (λ l. ReadsAs l (all_in ts r)) (sym (all-bytes ts r)) (log-reads (all_in ts r) (all-entries ts r))

-- and in words their lines are the texts
pub all_lines : (ts : List uncut.Told) (r : AllRead ts) → logs_of false ts ≡ each texts_of (all_in ts r)
unfolding logs_of
all_lines [] r = refl
all_lines (t ∷ ts) r =
    ap₂ (λ a b. a ++ b) (ap texts_of_log r.0.2 ∙ reads-told (log-reads r.0.0 r.0.1)) (all_lines ts r.1)
    ∙ sym (each_append texts_of r.0.0 (all_in ts r.1))

pub words-short : (ts : List uncut.Told) → AllRead ts → Short log_room (logs_of false ts)
words-short ts r =
    short-more 64 log_room (logs_of false ts) (lit≤ tt) (subst (Short 64) (sym (all_lines ts r)) (lines-short (all_in ts r) (all-entries ts r)))

-- ---- so is what a desk tells

told-by : (books : Held) (header : Frame) (bytes : List ℕ) (v : desk.Verdict) → entries_of (told_by books header bytes v) ≡ entries_by books v
unfolding desk.logged_by groups_of_all
told-by books header bytes (desk.refused why) = refl
told-by books header bytes (desk.defines book live) = refl
told-by books header bytes (desk.continues book message) = refl
told-by books header bytes (desk.opens tag message) = refl

pub told-read : (events : List Event) (course : Course) (seconds : Seconds) → Sound course.held → KeptOn course → BooksInBytes course
    → AllRead (told_all course.held seconds events)
unfolding told_all
told-read [] course seconds s k b = tt
told-read (noise count ∷ events) course seconds s k b = (([], tt, refl), told-read events course seconds s k b)
told-read (frame header bytes ∷ events) course seconds s k b =
    let second : ℕ = seconds 0 in
    let g : Given = given bytes second in
    let held : Held = course.held in
    let v : history.verdict_on held g ≡ verdict_on held second bytes = verdict-is held s second bytes in
    let e : entries_of (told_of held second (frame header bytes)) ≡ joined bytes_of (entries_under (onward course g).opening (history.verdict_on held g))
    = told-by (handled_on held second bytes) header bytes (verdict_on held second bytes) ∙ ap (λ v. entries_by (handled_at held second v) v) (sym v) ∙ written-under course g k in
    let n : (onward course g).held ≡ books_after held second (frame header bytes) = ap (λ v. held_by (handled_at held second v) v) v in
    let rest = told-read events (onward course g) (λ i. seconds (suc i)) (subst Sound (sym n) (sound-after s second (frame header bytes))) (stays-kept course g k) (books-stay course b g tt) in
    ((entries_under (onward course g).opening (history.verdict_on held g), entries-under course b g tt, e), subst (λ (h : Held). AllRead (told_all h (λ i. seconds (suc i)) events)) n rest)

-- ---- the books that a new desk has

pub zeros-bytes : (n : ℕ) → Bytes (replicate n 0)
zeros-bytes zero = bytes-none
zeros-bytes (suc n) = bytes-cons (omega arith) (zeros-bytes n)
