-- Laws: the texts of what is told, one behind the other; in the raw form they are its run log, and those of each event have room where there is room for a frame's log. Proved.
use Rattle.std.specs.Prelude.{◌≡◌, Bool, true, ℕ, ◌≤◌, length, replicate}
use Rattle.std.proofs.Math.Path.{refl, sym, ap}
use Rattle.std.proofs.Common.{◌∙◌, subst, arith}
use mathlib.Core.List.{List, [], ◌∷◌, ◌++◌, append_assoc, flatten}
use Rattle.std.proofs.lemmas.List.{length-replicate}
use Rattle.text.specs.Text.{Short}
use Rattle.text.specs.Output.{short-parts, flatten-append}
use Rattle.sizes.specs.Sizes.{log_room}
use Rattle.stream.specs.Scan.{Event, frame, noise}
use Rattle.desk.specs.Take as desk
use Rattle.desk.specs.History.{Held, handled_at}
use Rattle.desk.specs.Theorems.{log-room}
use Rattle.prepare.specs.Uncut as uncut
use Rattle.prepare.specs.Uncut.{verdict_on, told_by, told_of, books_after, Seconds, later, told_all, entries_of, run_log}
use Rattle.prepare.specs.Driver.{Sound, InTime, later_by}
use Rattle.prepare.specs.Stays.{verdict-past, sound-after}
use Rattle.runlog.specs.Telling.{some, texts_for, logs_of, always}

-- ---- every frame at the same second

pub later-always : (t : uncut.Told) (second : ℕ) → later_by t (always second) ≡ always second
later-always (uncut.accepted header bytes entries) second = refl
later-always (uncut.refused header bytes why) second = refl
later-always (uncut.noise count) second = refl

pub always-time : (t : uncut.Told) (second : ℕ) → InTime t second (always second)
always-time (uncut.accepted header bytes entries) second = refl
always-time (uncut.refused header bytes why) second = refl
always-time (uncut.noise count) second = tt

-- ---- the entries of what is told

some-flat : (entries : List ℕ) (rest : List (List ℕ)) → flatten (some entries ++ rest) ≡ entries ++ flatten rest
unfolding flatten
some-flat [] rest = refl
some-flat (x ∷ xs) rest = refl

pub logs-join : (ts : List uncut.Told) → flatten (logs_of true ts) ≡ run_log ts
unfolding logs_of run_log flatten
logs-join [] = refl
logs-join (t ∷ ts) = some-flat (entries_of t) (logs_of true ts) ∙ ap (λ l. entries_of t ++ l) (logs-join ts)

some-short : (room : ℕ) (entries : List ℕ) (rest : List (List ℕ)) → length entries ≤ room → Short room rest → Short room (some entries ++ rest)
some-short room [] rest h s = s
some-short room (x ∷ xs) rest h s = (h, s)

-- those of an event are no longer than the room for a frame's log
entries-short : (books : Held) → Sound books → (second : ℕ) (e : Event) → length (entries_of (told_of books second e)) ≤ log_room
entries-short books sound second (noise count) = omega arith
entries-short books sound second (frame header bytes) =
    let log = replicate {A = ℕ} log_room 0 in
    let room : log_room ≤ length log = omega (arith, length-replicate {A = ℕ} log_room 0) in
    go (verdict_on books second bytes)
    (subst (λ v. length (desk.logged_by (by v).desk books.live books.run v) ≤ log_room) (verdict-past books sound bytes second log room)
    (log-room (desk.hands books.desk bytes second books.live books.run log)))
  where
    by : desk.Verdict → Held
    by v = handled_at books second v

    go : (v : desk.Verdict) → length (desk.logged_by (by v).desk books.live books.run v) ≤ log_room → length (entries_of (told_by (by v) header bytes v)) ≤ log_room
    go (desk.refused why) h = omega arith
    go (desk.defines book live) h = h
    go (desk.continues book message) h = h
    go (desk.opens tag message) h = h

pub raw-short : (events : List Event) (books : Held) (seconds : Seconds) → Sound books → Short log_room (logs_of true (told_all books seconds events))
unfolding logs_of told_all
raw-short [] books seconds sound = tt
raw-short (e ∷ events) books seconds sound =
    let next = books_after books (seconds 0) e in
    some-short log_room (entries_of (told_of books (seconds 0) e)) (logs_of true (told_all next (later e seconds) events)) (entries-short books sound (seconds 0) e)
    (raw-short events next (later e seconds) (sound-after sound (seconds 0) e))

module _ (raw : Bool) where
  logs-append : (ts us : List uncut.Told) → logs_of raw (ts ++ us) ≡ logs_of raw ts ++ logs_of raw us
  unfolding logs_of
  logs-append [] us = refl
  logs-append (t ∷ ts) us =
      ap (λ l. texts_for raw (entries_of t) ++ l) (logs-append ts us) ∙ sym (append_assoc (texts_for raw (entries_of t)) (logs_of raw ts) (logs_of raw us))

  pub logs-parts : (ts us : List uncut.Told) → Short log_room (logs_of raw (ts ++ us)) → Short log_room (logs_of raw ts) × Short log_room (logs_of raw us)
  logs-parts ts us s = short-parts log_room (logs_of raw ts) (logs_of raw us) (subst (Short log_room) (logs-append ts us) s)

  pub logs-flat : (ts us : List uncut.Told) → flatten (logs_of raw ts) ++ flatten (logs_of raw us) ≡ flatten (logs_of raw (ts ++ us))
  logs-flat ts us = sym (ap flatten (logs-append ts us) ∙ flatten-append (logs_of raw ts) (logs_of raw us))
