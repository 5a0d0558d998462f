-- Theorems: with `raw` the program's bytes are the run log of the uncut stream: those that go out (Outgoing.antt), portion after portion and at the end, are those that document 01 lays down for the
-- portions that were told, joined, their frames at their seconds (`seconds_of`), by the desk that the command line asked for, however they are cut. In words they are the lines of this run log's entries, as they are defined for the uncut stream.
-- Proved.
use Rattle.std.specs.Prelude.{◌≡◌, refl, Bool, true, false, ℕ, ◌≤◌, length, drop, replicate, Ok, Some}
use Rattle.std.proofs.Common.{sym, ap, ap₂, ◌∙◌, subst, arith}
use mathlib.Core.List.{List, [], ◌∷◌, ◌++◌, flatten}
use Rattle.std.proofs.lemmas.List.{length-replicate}
use Rattle.text.specs.Text.{Short}
use Rattle.text.specs.Output.{whole_out}
use Rattle.words.specs.Lines.{each, texts_of}
use Rattle.words.specs.Theorems.{reads-once}
use Rattle.sizes.specs.Sizes.{longest_frame, book_bytes, log_room}
use Rattle.stream.specs.Scan.{scan}
use Rattle.stream.specs.Driver.{Clear, waits}
use Rattle.stream.specs.Theorems.{zeros-clear}
use Rattle.desk.specs.declared.Desk.{Desk}
use Rattle.desk.specs.Desk.{new_desk}
use Rattle.desk.specs.History.{Held, Snapshot, Course, KeptOn}
use Rattle.desk.specs.Entries.{BooksInBytes}
use Rattle.prepare.specs.Uncut as uncut
use Rattle.prepare.specs.Uncut.{Seconds, uncut_told, uncut_log}
use Rattle.prepare.specs.Driver.{State, Sound, call_says, call_leaves, InTime, later_by, later_all, Feeds, Closes, Whole, start}
use Rattle.prepare.specs.Lender.{told_then, all_then}
use Rattle.prepare.specs.Driving.{then-later}
use Rattle.prepare.specs.Entries.{uncut_entries}
use Rattle.prepare.specs.Theorems.{prepared, fresh-sound, fresh_kept}
use Rattle.prepare.specs.Display.{uncut-reads}
use Rattle.runlog.specs.declared.hearing.Stop.{Stop}
use Rattle.runlog.specs.Results.{Done}
use Rattle.runlog.specs.Command.{job_of}
use Rattle.runlog.specs.Telling.{state_of, logs_of, always}
use Rattle.runlog.specs.Running.{Reads, told_in, seconds_in, AllTold, seconds_of, at_start, Ran, Does}
use Rattle.runlog.specs.Outgoing.{out_in, out_of}
use Rattle.runlog.specs.Joined.{later-always, logs-join, raw-short, logs-parts, logs-flat}
use Rattle.runlog.specs.Lines.{all_in, log-read, all_lines, words-short, told-read, zeros-bytes}

in-time : (t : uncut.Told) (n second : ℕ) (behind : Seconds) → InTime t n (always second) → InTime t n (told_then t second behind)
in-time (uncut.accepted header bytes entries) n second behind i = i
in-time (uncut.refused header bytes why) n second behind i = i
in-time (uncut.noise count) n second behind i = tt

nothing-then : (second : ℕ) {behind seconds : Seconds} {s s₁ s₂ : State} {ps : List (List ℕ)} {ts us : List uncut.Told}
    → Feeds waits seconds s [] ts s₁ → Feeds waits behind s₁ ps us s₂ → Feeds waits (all_then ts second behind) s ps (ts ++ us) s₂
unfolding all_then
nothing-then second Feeds.no_more g = g

portion-then : {second : ℕ} {behind seconds : Seconds} {s s₁ s₂ : State} {p : List ℕ} {ps : List (List ℕ)} {ts us : List uncut.Told}
    → Feeds waits seconds s (p ∷ []) ts s₁ → seconds ≡ always second → Feeds waits behind s₁ ps us s₂
    → Feeds waits (all_then ts second behind) s (p ∷ ps) (ts ++ us) s₂
unfolding all_then
portion-then {second} {behind} {s₂ = s₂} {ps = ps} {us = us} (Feeds.an-event {seconds} {s} {p = p} {t = t} {ts} given room k i f) e g =
    let n : Seconds = all_then ts second behind in
    let x = portion-then f (ap (later_by t) e ∙ later-always t second) g in
    Feeds.an-event given room k (in-time t given.second second n (subst (λ z. InTime t given.second z) e i))
    (subst (λ z. Feeds waits z (call_leaves s given p) (drop (call_says s given p).used p ∷ ps) (ts ++ us) s₂) (sym (then-later t second n)) x)
portion-then {second} (Feeds.all-used given room k f) e g = Feeds.all-used given room k (nothing-then second f g)
portion-then (Feeds.passed_over z f) e g = absurd z

portions-feed : {raw : Bool} {s s₁ : State} {o o₁ : List ℕ} {ps : List (List ℕ)} (r : Reads raw s o ps s₁ o₁) (behind : Seconds)
    → Feeds waits (seconds_in r behind) s ps (told_in r) s₁
unfolding told_in seconds_in
portions-feed Reads.no_more behind = Feeds.no_more
portions-feed (Reads.a-portion second at told rest) behind = portion-then told.feeds refl (portions-feed rest behind)

-- behind what is told of the portions come the seconds of the end
behind-portion : (second : ℕ) (ts us : List uncut.Told) (seconds : Seconds) → later_all (ts ++ us) (all_then ts second seconds) ≡ later_all us seconds
unfolding later_all all_then
behind-portion second [] us seconds = refl
behind-portion second (t ∷ ts) us seconds = ap (later_all (ts ++ us)) (then-later t second (all_then ts second seconds)) ∙ behind-portion second ts us seconds

behind-all : {raw : Bool} {s s₁ : State} {o o₁ : List ℕ} {ps : List (List ℕ)} (r : Reads raw s o ps s₁ o₁) (behind : Seconds) → later_all (told_in r) (seconds_in r behind) ≡ behind
unfolding told_in seconds_in later_all
behind-all Reads.no_more behind = refl
behind-all (Reads.a-portion second at told rest) behind = behind-portion second told.told (told_in rest) (seconds_in rest behind) ∙ behind-all rest behind

-- what goes out of the portions is the texts of what is told of them
portions-joined : {raw : Bool} {s s₁ : State} {o o₁ : List ℕ} {ps : List (List ℕ)} → (r : Reads raw s o ps s₁ o₁) → log_room ≤ length o → Short log_room (logs_of raw (told_in r))
    → (out_in r ≡ flatten (logs_of raw (told_in r))) × (length o₁ ≡ length o)
unfolding told_in out_in logs_of flatten
portions-joined Reads.no_more h s = (refl, refl)
portions-joined {raw = raw} (Reads.a-portion {o = o} {o₁ = p} second at told rest) h s =
    let d = logs-parts raw told.told (told_in rest) s in
    let j = whole_out o p at log_room (logs_of raw told.told) told.says h d.0 in
    let l = j.1 in
    let r = portions-joined rest (omega arith) d.1 in
    (ap₂ (λ x y. x ++ y) j.0 r.0 ∙ logs-flat raw told.told (told_in rest), r.1 ∙ l)

module _ {raw : Bool} {books : Held} {bytes out bytes₂ live₂ run₂ out₂ : List ℕ} {stop : Stop} (clear : Clear bytes) (sound : Sound books)
    (a : AllTold raw (start bytes books) out bytes₂ live₂ run₂ out₂ stop) where
  abbrev seconds : Seconds
  seconds = seconds_of a

  abbrev whole : Whole waits seconds bytes books a.portions
  whole = record {
    before = told_in a.reads;
    between = a.state₁;
    feeds = portions-feed a.reads (always a.closes.second');
    after = a.closes.ends.told;
    end = state_of bytes₂ a.closes.tray' a.closes.desk' live₂ run₂;
    closes = subst (λ z. Closes z a.state₁ a.closes.ends.told (state_of bytes₂ a.closes.tray' a.closes.desk' live₂ run₂)) (sym (behind-all a.reads (always a.closes.second'))) a.closes.ends.closes;
  }

  -- What is told is what is told of the uncut stream, its frames at the seconds of the portions on which they were told, or of the end (`seconds_of`).
  pub told-uncut : told_in a.reads ++ a.closes.ends.told ≡ uncut_told books seconds (flatten a.portions)
  told-uncut = (prepared clear sound whole).0

  -- And the bytes that go out are the texts of it,
  out-all : Short log_room (logs_of raw (uncut_told books seconds (flatten a.portions))) → log_room ≤ length out → out_of a ≡ flatten (logs_of raw (uncut_told books seconds (flatten a.portions)))
  out-all short h =
      let ts = told_in a.reads in
      let us = a.closes.ends.told in
      let s = logs-parts raw ts us (subst (λ ts. Short log_room (logs_of raw ts)) (sym told-uncut) short) in
      let r = portions-joined a.reads h s.0 in
      let l = r.1 in
      let j = whole_out a.out₁ out₂ a.closes.at' log_room (logs_of raw us) a.closes.ends.says (omega arith) s.1 in
      ap₂ (λ x y. x ++ y) r.0 j.0 ∙ logs-flat raw ts us ∙ ap (λ ts. flatten (logs_of raw ts)) told-uncut

  -- with `raw` its run log,
  pub out-uncut : raw ≡ true → log_room ≤ length out → out_of a ≡ uncut_log books seconds (flatten a.portions)
  out-uncut q h =
      out-all (subst (λ (b : Bool). Short log_room (logs_of b (uncut_told books seconds (flatten a.portions)))) (sym q) (raw-short (scan (flatten a.portions)) books seconds sound)) h
      ∙ ap (λ (b : Bool). flatten (logs_of b (uncut_told books seconds (flatten a.portions)))) q ∙ logs-join (uncut_told books seconds (flatten a.portions))

  -- and in words the lines of its entries, which are those of the uncut stream.
  pub out-lines : raw ≡ false → log_room ≤ length out → (opening : Snapshot) → KeptOn (record { held = books; opening = opening })
      → BooksInBytes (record { held = books; opening = opening }) → out_of a ≡ flatten (each texts_of (uncut_entries books seconds opening (flatten a.portions)))
  out-lines q h opening k b =
      let course : Course = record { held = books; opening = opening } in
      let ts = uncut_told books seconds (flatten a.portions) in
      let r = told-read (scan (flatten a.portions)) course seconds sound k b in
      let same : all_in ts r ≡ uncut_entries books seconds opening (flatten a.portions) = reads-once (log-read ts r) (uncut-reads course sound k b seconds (flatten a.portions)) in
      out-all (subst (λ (b : Bool). Short log_room (logs_of b ts)) (sym q) (words-short ts r)) h ∙ ap (λ (b : Bool). flatten (logs_of b ts)) q ∙ ap flatten (all_lines ts r)
      ∙ ap (λ l. flatten (each texts_of l)) same

ran-by : {desk : Desk} {raw : Bool} {d : Done} → Does (Some (record { desk = desk; raw = raw })) d → (stop : Stop) × Ran desk raw stop × (d ≡ Some stop)
ran-by (Does.runs {stop = stop} r) = (stop, r, refl)

-- So it is by the desk that the command line asks for, if there is one: a new one for its solution, processor and constellation.
module _ (solution processor constellation : ℕ) (desk : Desk) (e : new_desk solution processor constellation ≡ Ok desk) where
  room : book_bytes ≤ length (replicate {A = ℕ} book_bytes 0)
  room = omega (arith, length-replicate {A = ℕ} book_bytes 0)

  start-sound : Sound (at_start desk).books
  start-sound = fresh-sound solution processor constellation desk e (replicate book_bytes 0) (replicate book_bytes 0) room room

  pub run-log : {d : Done} → Does (job_of (Some (record { solution = solution; processor = processor; constellation = constellation; raw = true }))) d
      → (stop : Stop) × (ran : Ran desk true stop) × (d ≡ Some stop) × (out_of ran.all_told ≡ uncut_log (at_start desk).books (seconds_of ran.all_told) (flatten ran.all_told.portions))
  run-log does =
      let r = ran-by (rw e at does) in
      (r.0, r.1, r.2, out-uncut (zeros-clear longest_frame (omega arith)) start-sound r.1.all_told refl r.1.out-room)

  -- no run is open at the start, so this book opens none
  abbrev pub opening : Snapshot
  opening = record { book = desk.book; bytes = replicate book_bytes 0 }

  pub run-lines : {d : Done} → Does (job_of (Some (record { solution = solution; processor = processor; constellation = constellation; raw = false }))) d
      → (stop : Stop) × (ran : Ran desk false stop) × (d ≡ Some stop)
      × (out_of ran.all_told ≡ flatten (each texts_of (uncut_entries (at_start desk).books (seconds_of ran.all_told) opening (flatten ran.all_told.portions))))
  run-lines does =
      let r = ran-by (rw e at does) in (
        r.0,
        r.1,
        r.2,
        out-lines (zeros-clear longest_frame (omega arith)) start-sound r.1.all_told refl r.1.out-room opening
            (fresh_kept solution processor constellation desk e (replicate book_bytes 0) (replicate book_bytes 0) opening)
            (record { live = zeros-bytes book_bytes; opening = zeros-bytes book_bytes }),
      )
