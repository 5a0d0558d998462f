-- The theorems of stream and desk together, worded after the demand, "for equal frames with equal seconds": "A byte stream cut into portions anywhere, some empty, gives the frames, noise counts,
-- run log and closing state that document 01 lays down for the uncut stream. Each residual is placed by the area definition in force when its run opened."
-- They are about the definitions that the contracts of `call` and `finish` cite. The proofs rest on Driving.antt, Placing.antt and the theorems of stream and desk.
use Rattle.std.specs.Prelude.{◌≡◌, ℕ, ◌≤◌, length, take, drop, replicate, Ok, Err}
use Rattle.std.proofs.Math.Path.{refl, ap}
use Rattle.std.proofs.Common.{sym, ap₂, ◌∙◌, subst, arith, take_at}
use mathlib.Core.List.{List, [], ◌∷◌, ◌++◌, append_assoc, append-nil, flatten}
use Rattle.std.proofs.lemmas.List.{length-replicate}
use Rattle.groups.specs.Groups.{groups_of_all}
use Rattle.frame.specs.declared.Frame.{Frame}
use Rattle.stream.specs.Scan.{frame, scan}
use Rattle.stream.specs.Tray.{Outcome, told, hungry, done}
use Rattle.stream.specs.Tray as tray
use Rattle.stream.specs.Driver as streaming
use Rattle.stream.specs.Driver.{Caller, waits}
use Rattle.stream.specs.Driving.{feeds-ready as stream-ready}
use Rattle.stream.specs.Theorems as stream
use Rattle.desk.specs.Take as desk
use Rattle.sizes.specs.Sizes.{book_bytes, log_room}
use Rattle.desk.specs.History.{Held, Snapshot, handled_at, held_by, KeptOn}
use Rattle.desk.specs.declared.Desk.{Desk}
use Rattle.desk.specs.Results.{Said}
use Rattle.desk.specs.Desk.{new_desk}
use Rattle.desk.specs.Theorems.{new-sound, closed-kept}
use Rattle.prepare.specs.Uncut.{Told, accepted, refused, verdict_on, told_by, told_of, books_after, Seconds, Alike, told_all, books_all, entries_of, run_log, uncut_told, uncut_log, uncut_books}
use Rattle.prepare.specs.Prepare.{Handed, call_outcome, finish_outcome, answer_of, books_of, written, books_in, Result, by_call, by_finish}
use Rattle.prepare.specs.Driver.{State, Sound, Lent, lent, call_leaves, finish_leaves, later_all, frames_in, Feeds, Closes, start, Whole}
use Rattle.prepare.specs.Lender.{Point, Lender, LendsRoom, one_log, WholeBy, seconds_by}
use Rattle.prepare.specs.Placed.{placed_log, opening_all}
use Rattle.prepare.specs.Placing.{placed, still_kept}
use Rattle.prepare.specs.Stays.{verdict-past, new-closed}
use Rattle.prepare.specs.Alike.{feeds-alike, whole-alike, told-alike, clocked, clock-alike}
use Rattle.prepare.specs.Driving.{Ready, later_on, feeds-so, feeds-ready, closes-so, whole-on, so-feeds, so-closes, any-whole, feeds-before, closes_before, told-append, books-append, log-append}

one : (l : List ℕ) → flatten (l ∷ []) ≡ l
unfolding flatten
one l = append-nil l

-- the calls of a lender, which tell and leave the same, as calls at the seconds that they were handed (`any-lender`)
abbrev pub whole_by : {bytes log : List ℕ} {books : Held} {c : Caller} {lends : Lender} {portions : List (List ℕ)} (w : WholeBy c lends bytes books log portions) → LendsRoom lends
    → log_room ≤ length log → Whole c (seconds_by w) bytes books portions
whole_by {lends = lends} w rooms room =
    let v = any-whole lends rooms w room in
    record { before = w.before; between = w.between.state; feeds = v.0; after = w.after; end = w.end.state; closes = v.1 }

module _ {bytes : List ℕ} {books : Held} (clear : streaming.Clear bytes) (sound : Sound books) where
  ready : Ready (start bytes books)
  ready = record { tray-ready = stream.fresh-sound clear; books-sound = sound }

  -- However a stream is cut into portions, some of them empty: calling on each until hungry, or until it is used up, and then finishing until done tells the frames,
  -- with what the desk says of each, and the noise counts of the uncut stream; the run log is the uncut stream's; and so is the closing state: the fresh tray with its
  -- bytes as they were lent, and the desk with every byte of both books. All that for equal seconds: frame i of the uncut stream has the second at which frame i was told.
  pub prepared : {c : Caller} {seconds : Seconds} {portions : List (List ℕ)} → (w : Whole c seconds bytes books portions)
      → (w.before ++ w.after ≡ uncut_told books seconds (flatten portions))
      × (run_log (w.before ++ w.after) ≡ uncut_log books seconds (flatten portions))
      × (w.end ≡ start bytes (uncut_books books seconds (flatten portions)))
  prepared {seconds = seconds} {portions} w =
      let f = feeds-so w.feeds ready in
      let g = closes-so w.closes (feeds-ready w.feeds ready) in
      let z = stream.stream clear (record { before = f.events; bytes₁ = _; tray₁ = _; feeds = f.feeds; after = g.events; bytes₂ = _; tray₂ = _; closes = g.closes }) in
      let t : w.before ++ w.after ≡ uncut_told books seconds (flatten portions)
      = ap₂ (λ a b. a ++ b) f.told (g.told ∙ ap₂ (λ d n. told_all d n g.events) f.books f.behind) ∙ sym (told-append books seconds f.events g.events)
      ∙ ap (told_all books seconds) z.0 in
      let d : w.end.books ≡ uncut_books books seconds (flatten portions)
      = g.books ∙ ap₂ (λ d n. books_all d n g.events) f.books f.behind ∙ sym (books-append books seconds f.events g.events) ∙ ap (books_all books seconds) z.0 in
      (t, ap run_log t, λ i. record { bytes = z.2 i; tray = z.1 i; books = d i })

  -- And the calls end, whatever the portions are, and whatever log each call is lent and second it is handed: both may depend on how many calls were made, on all that was told
  -- before, on the state, and on what the last call left of its log.
  pub prepared-ends : {c : Caller} (lends : Lender) → LendsRoom lends → (log : List ℕ) → log_room ≤ length log → (portions : List (List ℕ))
      → WholeBy c lends bytes books log portions
  prepared-ends lends rooms log room portions =
      let w = stream.stream-ends clear portions in
      let f = so-feeds lends rooms w.feeds books ready 0 [] log room in
      whole-on f
      (so-closes lends rooms w.closes f.books₁ (record { tray-ready = stream-ready w.feeds (stream.fresh-sound clear); books-sound = f.is-sound }) f.calls₁ f.before₁ f.left₁
      f.room)

  -- So they do for one log that is lent again and again, and any clock, read anew for each call.
  pub one-log-ends : {c : Caller} (clock : Point → ℕ) (log : List ℕ) → log_room ≤ length log → (portions : List (List ℕ)) → WholeBy c (one_log clock) bytes books log portions
  one-log-ends clock log room portions = prepared-ends (one_log clock) (λ _ h. h) log room portions

  -- At any seconds there are such calls, whatever the portions are.
  pub any-seconds : {c : Caller} (seconds : Seconds) (portions : List (List ℕ)) → Whole c seconds bytes books portions
  any-seconds {c} seconds portions =
      let log = replicate {A = ℕ} log_room 0 in
      let room : log_room ≤ length log = omega (arith, length-replicate {A = ℕ} log_room 0) in
      let w : WholeBy c (clocked seconds) bytes books log portions = prepared-ends (clocked seconds) (λ _ h. h) log room portions in
      whole-alike (whole_by w (λ _ h. h) room) seconds (clock-alike seconds w)

  -- Two cuttings of one stream, "for equal frames with equal seconds": where each frame has the same second in both, all that is told is the same, and so are the run log and the
  -- closing state.
  pub two-cuttings : {c c' : Caller} {seconds seconds' : Seconds} {portions portions' : List (List ℕ)}
      (w : Whole c seconds bytes books portions) (w' : Whole c' seconds' bytes books portions') → flatten portions ≡ flatten portions'
      → Alike (frames_in (w.before ++ w.after)) seconds seconds'
      → (w.before ++ w.after ≡ w'.before ++ w'.after) × (run_log (w.before ++ w.after) ≡ run_log (w'.before ++ w'.after)) × (w.end ≡ w'.end)
  two-cuttings {seconds' = seconds'} w w' q a =
      let x = prepared (whole-alike w seconds' a) in
      let y = prepared w' in
      let t = x.0 ∙ ap (uncut_told books seconds') q ∙ sym y.0 in
      (t, ap run_log t, x.2 ∙ ap (λ stream. start bytes (uncut_books books seconds' stream)) q ∙ sym y.2)

  -- Before finish, once the last call has said hungry, what is told and the state, every byte of tray and books included, depend on nothing but the joined bytes and the seconds of
  -- the frames told.
  pub cut : {seconds seconds' : Seconds} {portions portions' : List (List ℕ)} {ts ts' : List Told} {s s' : State}
      → Feeds waits seconds (start bytes books) portions ts s → Feeds waits seconds' (start bytes books) portions' ts' s' → flatten portions ≡ flatten portions'
      → Alike (frames_in ts) seconds seconds'
      → (ts ≡ ts') × (s ≡ s')
  cut {seconds' = seconds'} f f' q a =
      let x = feeds-so (feeds-alike f seconds' a) ready in
      let y = feeds-so f' ready in
      let z = stream.cut clear x.feeds y.feeds q in
      let d = x.books ∙ ap (books_all books seconds') z.0 ∙ sym y.books in
      (x.told ∙ ap (told_all books seconds') z.0 ∙ sym y.told, λ i. record { bytes = z.2 i; tray = z.1 i; books = d i })

  -- What is told before finish on a stream is told first on every longer stream that begins with it, where each frame told has the same second in both, and the log told before
  -- finish is the beginning of its log: before finish ..
  pub prefix : {c : Caller} {seconds seconds' : Seconds} {portions portions' : List (List ℕ)} {ts ts' : List Told} {s s' : State}
      → Feeds c seconds (start bytes books) portions ts s → Feeds waits seconds' (start bytes books) portions' ts' s'
      → (more : List ℕ) → flatten portions' ≡ flatten portions ++ more → Alike (frames_in ts) seconds seconds'
      → (rest : List Told) × (ts' ≡ ts ++ rest) × (run_log ts' ≡ run_log ts ++ run_log rest)
  prefix {seconds' = seconds'} {ts = ts} f f' more q a =
      let x = feeds-so (feeds-alike f seconds' a) ready in
      let y = feeds-so f' ready in
      let z = stream.prefix clear x.feeds y.feeds more q in
      let rest = told_all (books_all books seconds' x.events) (later_on x.events seconds') z.0 in
      let e = y.told ∙ ap (told_all books seconds') z.1 ∙ told-append books seconds' x.events z.0 ∙ ap (λ ts. ts ++ rest) (sym x.told) in
      (rest, e, ap run_log e ∙ log-append ts rest)

  -- .. and of the whole longer stream, uncut.
  pub prefix-uncut : {c : Caller} {seconds seconds' : Seconds} {portions : List (List ℕ)} {ts : List Told} {s : State} → Feeds c seconds (start bytes books) portions ts s
      → (more : List ℕ) → Alike (frames_in ts) seconds seconds'
      → (rest : List Told) × (uncut_told books seconds' (flatten portions ++ more) ≡ ts ++ rest) × (uncut_log books seconds' (flatten portions ++ more) ≡ run_log ts ++ run_log rest)
  prefix-uncut {seconds' = seconds'} {portions} {ts} f more a =
      let x = feeds-so (feeds-alike f seconds' a) ready in
      let w = stream.stream-ends {c = waits} clear ((flatten portions ++ more) ∷ []) in
      let z = stream.prefix clear x.feeds w.feeds more (one (flatten portions ++ more)) in
      let events = z.0 ++ w.after in
      let all : scan (flatten portions ++ more) ≡ x.events ++ events
      = ap scan (sym (one (flatten portions ++ more))) ∙ sym (stream.stream clear w).0 ∙ ap (λ es. es ++ w.after) z.1 ∙ append_assoc x.events z.0 w.after in
      let rest = told_all (books_all books seconds' x.events) (later_on x.events seconds') events in
      let e : uncut_told books seconds' (flatten portions ++ more) ≡ ts ++ rest
      = ap (told_all books seconds') all ∙ told-append books seconds' x.events events ∙ ap (λ ts. ts ++ rest) (sym x.told) in
      (rest, e, ap run_log e ∙ log-append ts rest)

  -- Each residual is placed by the area definition in force when its run opened: the run log, however the stream is cut, is the one in which each message is told
  -- by the live book as it was at the moment when its run opened, as the frame that opened it was handled with: after a gap, an empty one. In it an area is placed with the 47
  -- bits that its ID has in that book: `placed-with` of the desk.
  -- `opening` is that moment's live book of the run that is open at the start; without an open run it is never asked, and any will do (`fresh_kept`). The closing desk
  -- keeps to the same, so that a further stream may follow.
  pub in-force : (opening : Snapshot) → KeptOn (record { held = books; opening = opening }) → {c : Caller} {seconds : Seconds} {portions : List (List ℕ)}
      (w : Whole c seconds bytes books portions)
      → (run_log (w.before ++ w.after) ≡ placed_log books seconds opening (scan (flatten portions)))
      × KeptOn (record { held = w.end.books; opening = opening_all books seconds opening (scan (flatten portions)) })
  in-force opening k {seconds = seconds} {portions} w = (
    (prepared w).1 ∙ placed (record { held = books; opening = opening }) sound k seconds (scan (flatten portions)),
    subst (λ held. KeptOn (record { held = held; opening = opening_all books seconds opening (scan (flatten portions)) })) (sym (ap (λ s. s.books) (prepared w).2))
        (still_kept (record { held = books; opening = opening }) sound k seconds (scan (flatten portions))),
  )

-- ---- who lends the logs

module _ {bytes log : List ℕ} {books : Held} {c : Caller} {lends : Lender} {portions : List (List ℕ)} (w : WholeBy c lends bytes books log portions) where
  -- Whoever lends, and whatever the clock is, such calls are calls of Driver.antt, which tell and leave the same, where the second of frame i is the one that the call which told it
  -- was handed (`seconds_by`): so `prepared` and `in-force` hold of them, and before finish `cut` and `prefix`.
  pub any-lender : LendsRoom lends → log_room ≤ length log
      → (Feeds c (seconds_by w) (start bytes books) portions w.before w.between.state) × (Closes (later_all w.before (seconds_by w)) w.between.state w.after w.end.state)
  any-lender rooms room = any-whole lends rooms w room

  -- What a lender may look at holds all that was told before.
  pub lender-knows : (w.between.before ≡ w.before) × (w.end.before ≡ w.before ++ w.after)
  lender-knows = let f = feeds-before w.feeds in (f, closes_before w.closes ∙ ap (λ ts. ts ++ w.after) f)

-- Two callers, whoever lends to them and whatever their clocks are: where each frame of one stream has the same second for both, both are told the same, with the same run log, and
-- left the same.
pub any-two : {bytes log log' : List ℕ} {books : Held} → streaming.Clear bytes → Sound books → {c c' : Caller} {lends lends' : Lender} {portions portions' : List (List ℕ)}
    (w : WholeBy c lends bytes books log portions) (w' : WholeBy c' lends' bytes books log' portions')
    → LendsRoom lends → log_room ≤ length log → LendsRoom lends' → log_room ≤ length log'
    → flatten portions ≡ flatten portions' → Alike (frames_in (w.before ++ w.after)) (seconds_by w) (seconds_by w')
    → (w.before ++ w.after ≡ w'.before ++ w'.after) × (run_log (w.before ++ w.after) ≡ run_log (w'.before ++ w'.after)) × (w.end.state ≡ w'.end.state)
any-two clear sound w w' rooms room rooms' room' q a = two-cuttings clear sound (whole_by w rooms room) (whole_by w' rooms' room') q a

-- What is told of the uncut stream, its run log and the books that it leaves depend on the seconds of its own frames and on no others.
pub uncut-alike : (books : Held) (seconds seconds' : Seconds) (bytes : List ℕ) → Alike (frames_in (uncut_told books seconds bytes)) seconds seconds'
    → (uncut_told books seconds bytes ≡ uncut_told books seconds' bytes) × (uncut_log books seconds bytes ≡ uncut_log books seconds' bytes)
    × (uncut_books books seconds bytes ≡ uncut_books books seconds' bytes)
uncut-alike books seconds seconds' bytes a = let z = told-alike books seconds seconds' (scan bytes) a in (z.0, ap run_log z.0, z.1)

-- A sound state stays sound: so it is before finish, whatever the portions were.
pub stays-sound : {bytes : List ℕ} {books : Held} → streaming.Clear bytes → Sound books → {c : Caller} {seconds : Seconds} {portions : List (List ℕ)} {ts : List Told} {s : State}
    → Feeds c seconds (start bytes books) portions ts s → (streaming.Ready s.bytes s.tray) × Sound s.books
stays-sound clear sound f = let r = feeds-ready f (ready clear sound) in (r.tray-ready, r.books-sound)

-- A fresh desk may start: a new one, with any bytes that have room for its books.
module _ (solution processor constellation : ℕ) (desk : Desk) (e : new_desk solution processor constellation ≡ Ok desk) (live run : List ℕ) where
  pub fresh-sound : book_bytes ≤ length live → book_bytes ≤ length run → Sound (books_in desk live run)
  fresh-sound hl hr = record { live-room = hl; run_room = hr; is-sound = new-sound solution processor constellation desk live run e hl }

  pub fresh_kept : (opening : Snapshot) → KeptOn (record { held = books_in desk live run; opening = opening })
  fresh_kept opening = closed-kept (record { held = books_in desk live run; opening = opening }) (new-closed solution processor constellation desk e)

-- ---- what these theorems carry from call to call is what the contracts hand back

pub handed-back : (handed : Handed) (o : Outcome)
    → books_in (answer_of handed o).desk (books_of handed o).live (books_of handed o).run ≡ books_of handed o
handed-back handed (tray.refused why) = refl
handed-back handed (told event contents used) = refl
handed-back handed (hungry contents used) = refl
handed-back handed (done contents) = refl

-- The state after a call: its tray's bytes, the tray and the desk of its answer, and both books.
abbrev pub state_in : Result → State
state_in result = record {
  bytes = result.bytes;
  tray = result.answer.tray;
  books = books_in result.answer.desk result.live result.run;
}

module _ (s : State) (given : Lent) where
  pub call-hands-back : (input : List ℕ) → call_leaves s given input ≡ state_in (by_call (lent s given) input)
  call-hands-back input =
      ap (λ held. record { bytes = (by_call (lent s given) input).bytes; tray = (by_call (lent s given) input).answer.tray; books = held })
      (sym (handed-back (lent s given) (call_outcome (lent s given) input)))

  pub finish-hands-back : finish_leaves s given ≡ state_in (by_finish (lent s given))
  finish-hands-back =
      ap (λ held. record { bytes = (by_finish (lent s given)).bytes; tray = (by_finish (lent s given)).answer.tray; books = held })
      (sym (handed-back (lent s given) (finish_outcome (lent s given))))

-- ---- "Each frame event goes to the desk in order": the uncut stream's step is what `desk::take` says of the frame's bytes, lent any log that has room

abbrev pub told_said : Frame → (bytes log : List ℕ) → Said → Told
told_said header bytes log (Ok n) = accepted header bytes (take n log)
told_said header bytes log (Err why) = refused header bytes why

module _ (books : Held) (sound : Sound books) (header : Frame) (second : ℕ) (bytes log : List ℕ) (room : log_room ≤ length log) where
  abbrev handed : desk.Handed
  handed = desk.hands books.desk bytes second books.live books.run log

  -- the desk with its books from which a verdict leaves what it leaves
  abbrev by : desk.Verdict → Held
  by v = handled_at books second v

  entries-first : (v : desk.Verdict)
      → desk.logged_by (by v).desk books.live books.run v
      ≡ take (length (desk.logged_by (by v).desk books.live books.run v)) (desk.log_by (by v).desk books.live books.run log v)
  entries-first v =
      let e : List ℕ = desk.logged_by (by v).desk books.live books.run v in
      sym (take_at e (drop (length e) log) (length e) refl)

  now-is : desk.verdict handed ≡ verdict_on books second bytes
  now-is = verdict-past books sound bytes second log room

  -- what is said of it is what `take` says, and its entries are the bytes that `take` writes first in the log
  pub said-by-take : told_of books second (frame header bytes) ≡ told_said header bytes (desk.frame_taken handed).log (desk.frame_taken handed).answer.said
  unfolding desk.frame_taken
  said-by-take =
      go (verdict_on books second bytes)
      ∙ ap (λ v. told_said header bytes (desk.log_by (by v).desk books.live books.run log v) (desk.taken_by (by v).desk books.live books.run v).said) (sym now-is)
    where
      go : (v : desk.Verdict)
          → told_by (by v) header bytes v
          ≡ told_said header bytes (desk.log_by (by v).desk books.live books.run log v) (desk.taken_by (by v).desk books.live books.run v).said
      go (desk.refused why) = refl
      go (desk.defines book live) = ap (accepted header bytes) (entries-first (desk.defines book live))
      go (desk.continues book message) = ap (accepted header bytes) (entries-first (desk.continues book message))
      go (desk.opens tag message) = ap (accepted header bytes) (entries-first (desk.opens tag message))

  pub books-by-take : books_after books second (frame header bytes)
      ≡ books_in (desk.frame_taken handed).answer.desk (desk.frame_taken handed).live (desk.frame_taken handed).run
  unfolding desk.frame_taken
  books-by-take = ap (λ v. held_by (by v) v) (sym now-is)

  pub log-by-take : written (entries_of (told_of books second (frame header bytes))) log ≡ (desk.frame_taken handed).log
  unfolding desk.frame_taken desk.logged_by groups_of_all
  log-by-take = go (verdict_on books second bytes) ∙ ap (λ v. desk.log_by (by v).desk books.live books.run log v) (sym now-is)
    where
      go : (v : desk.Verdict) → written (entries_of (told_by (by v) header bytes v)) log ≡ desk.log_by (by v).desk books.live books.run log v
      go (desk.refused why) = refl
      go (desk.defines book live) = refl
      go (desk.continues book message) = refl
      go (desk.opens tag message) = refl
