-- Theorems: the run log of a whole stream, however it is cut, reads entry by entry to its end, and what is read is the entries of the uncut stream's events (document 02, request 3). Proved;
-- assumes nothing.
use Rattle.std.specs.Prelude.{◌≡◌, refl, ℕ, suc}
use Rattle.std.proofs.Common.{ap₂, sym, ◌∙◌, subst}
use mathlib.Core.List.{List, [], ◌∷◌, ◌++◌, flatten}
use Rattle.stream.specs.Scan.{Event, frame, noise, scan}
use Rattle.stream.specs.Driver.{Caller, Clear}
use Rattle.entries.specs.Entry.{joined, bytes_of}
use Rattle.entries.specs.Ends.{ReadsAs, AllEntries}
use Rattle.entries.specs.Theorems.{log-reads}
use Rattle.entrylog.specs.Lists.{joined-append, all_append}
use Rattle.desk.specs.Take as desk
use Rattle.desk.specs.History.{Held, Snapshot, Course, KeptOn}
use Rattle.desk.specs.Entries.{entries_under, BooksInBytes}
use Rattle.desk.specs.Display.{under-bytes, entries-under, books-stay}
use Rattle.prepare.specs.Uncut.{verdict_on, Seconds, told_all, run_log, uncut_log}
use Rattle.prepare.specs.Driver.{Sound, Whole}
use Rattle.prepare.specs.Placed.{entries_under as bytes_under, placed_log}
use Rattle.prepare.specs.Entries.{entries_for, entries_all, uncut_entries}
use Rattle.prepare.specs.Stays.{given, verdict-is, sound-after}
use Rattle.prepare.specs.Placing.{on, placed}
use Rattle.prepare.specs.Theorems.{prepared}

-- ---- the log's bytes are those of its entries

for-bytes : (opening : Snapshot) (books : Held) (second : ℕ) (event : Event) → bytes_under opening books second event ≡ joined bytes_of (entries_for opening books second event)
for-bytes opening books second (frame header bytes) = under-bytes opening (verdict_on books second bytes)
for-bytes opening books second (noise count) = refl

pub placed-bytes : (c : Course) → Sound c.held → (seconds : Seconds) (events : List Event)
    → placed_log c.held seconds c.opening events ≡ joined bytes_of (entries_all c.held seconds c.opening events)
unfolding placed_log entries_all
placed-bytes c s seconds [] = refl
placed-bytes c s seconds (noise n ∷ events) = placed-bytes c s seconds events
placed-bytes c s seconds (frame f b ∷ events) =
    let v : desk.Verdict = verdict_on c.held (seconds 0) b in
    let next : Course = on c (seconds 0) v in
    ap₂ (λ x y. x ++ y) (for-bytes next.opening c.held (seconds 0) (frame f b)) (placed-bytes next (sound-after s (seconds 0) (frame f b)) (λ i. seconds (suc i)) events)
    ∙ sym (joined-append bytes_of (entries_under next.opening v) (entries_all next.held (λ i. seconds (suc i)) next.opening events))

-- ---- all of them are entries

module _ (c : Course) (s : Sound c.held) (books : BooksInBytes c) (second : ℕ) (b : List ℕ) where
  frame-are : AllEntries (entries_under (on c second (verdict_on c.held second b)).opening (verdict_on c.held second b))
  frame-are = subst (λ v. AllEntries (entries_under (on c second v).opening v)) (verdict-is c.held s second b) (entries-under c books (given b second) tt)

  frame-stays : BooksInBytes (on c second (verdict_on c.held second b))
  frame-stays = subst (λ v. BooksInBytes (on c second v)) (verdict-is c.held s second b) (books-stay c books (given b second) tt)

pub all_are : (c : Course) → Sound c.held → BooksInBytes c → (seconds : Seconds) (events : List Event) → AllEntries (entries_all c.held seconds c.opening events)
unfolding entries_all
all_are c s books seconds [] = tt
all_are c s books seconds (noise n ∷ events) = all_are c s books seconds events
all_are c s books seconds (frame f b ∷ events) =
    let v : desk.Verdict = verdict_on c.held (seconds 0) b in
    let next : Course = on c (seconds 0) v in
    all_append (entries_under next.opening v) (entries_all next.held (λ i. seconds (suc i)) next.opening events) (frame-are c s books (seconds 0) b)
    (all_are next (sound-after s (seconds 0) (frame f b)) (frame-stays c s books (seconds 0) b) (λ i. seconds (suc i)) events)

-- ---- the display

module _ (c : Course) (s : Sound c.held) (k : KeptOn c) (books : BooksInBytes c) (seconds : Seconds) where
  pub events-read : (events : List Event) → ReadsAs (run_log (told_all c.held seconds events)) (entries_all c.held seconds c.opening events)
  events-read events =
      subst (λ l. ReadsAs l (entries_all c.held seconds c.opening events)) (sym (placed c s k seconds events ∙ placed-bytes c s seconds events))
      (log-reads (entries_all c.held seconds c.opening events) (all_are c s books seconds events))

  -- The run log of the uncut stream ..
  pub uncut-reads : (bytes : List ℕ) → ReadsAs (uncut_log c.held seconds bytes) (uncut_entries c.held seconds c.opening bytes)
  uncut-reads bytes = events-read (scan bytes)

  -- .. and what is told of it from a fresh tray, however it is cut into portions.
  pub prepared-reads : {tray : List ℕ} → Clear tray → {caller : Caller} {portions : List (List ℕ)} (w : Whole caller seconds tray c.held portions)
      → ReadsAs (run_log (w.before ++ w.after)) (uncut_entries c.held seconds c.opening (flatten portions))
  prepared-reads clear {portions = portions} w =
      subst (λ l. ReadsAs l (uncut_entries c.held seconds c.opening (flatten portions))) (sym (prepared clear s w).1) (uncut-reads (flatten portions))
