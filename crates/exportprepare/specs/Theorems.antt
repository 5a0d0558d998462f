-- The theorems of crate prepare for calls of `prepare` for other languages in a row, on what is lent and as it is heard: "A byte stream cut into portions anywhere, some
-- empty, gives the frames, noise counts, run log and closing state that document 01 lays down for the uncut stream. Each residual is placed by the area definition in
-- force when its run opened", "for equal frames with equal seconds". They are about the definitions that the contracts of homralgyu_prepare_call and homralgyu_prepare_finish cite. Proved; assumes nothing.
use Rattle.std.specs.Prelude.{◌≡◌, refl, false, ℕ, ◌≤◌, ltb, length, take, Ok, Err}
use Rattle.std.proofs.Common.{sym, ◌∙◌, subst, arith, ltb-false}
use Rattle.std.proofs.Math.Path.{ap, ap₂}
use mathlib.Core.List.{List, [], ◌∷◌, ◌++◌, flatten}
use Rattle.std.proofs.Math.ListN.{drop, take-append-drop}
use Rattle.answer.specs.Number.{number_of}
use Rattle.answer.specs.declared.Refusal.{Refusal}
use Rattle.sizes.specs.Sizes.{book_bytes}
use Rattle.stream.specs.Scan.{scan}
use Rattle.stream.specs.Driver.{Clear, Caller, waits, hurries}
use Rattle.desk.specs.declared.Desk.{Desk}
use Rattle.desk.specs.Results.{NewDesk}
use Rattle.desk.specs.Desk.{new_desk, desk_sound}
use Rattle.desk.specs.History.{Held, Snapshot, KeptOn}
use Rattle.desk.specs.Theorems.{new-sound}
use Rattle.prepare.specs.Uncut as uncut
use Rattle.prepare.specs.Uncut.{Seconds, Alike, uncut_told, uncut_log, uncut_books, run_log}
use Rattle.prepare.specs.Prepare.{books_in}
use Rattle.prepare.specs.Driver.{start}
use Rattle.prepare.specs.Driver as driver
use Rattle.prepare.specs.Placed.{placed_log, opening_all}
use Rattle.prepare.specs.Theorems as prepare
use Rattle.export.specs.Numbers.{laid, room_for, answered, lent_after}
use Rattle.export.specs.Streams.{tray_room, tray_of}
use Rattle.exportdesk.specs.States.{desk_room, desk_in, desk_of}
use Rattle.exportdesk.specs.Desks.{told_new, sound_of}
use Rattle.exportdesk.specs.Theorems.{reads-back}
use Rattle.exportprepare.specs.Prepares.{Lent, call_number, finish_number}
use Rattle.exportprepare.specs.NextState.{state, state_in}
use Rattle.exportprepare.specs.Driver.{Heard, later_all, frames_in, Feeds, FeedsStream, Closes, Whole, Called, none_yet, Starts, books_lent, Ends, heard_of, heard_all, entries_of, log_heard}
use Rattle.exportprepare.specs.Lender.{Point, point, Lender, same_again, LendsRoom, Cutter, GivesMore, WholeBy, WholeStreamBy, seconds_closed, seconds_by, seconds_cut}
use Rattle.exportprepare.specs.Alike.{frames-told, whole-alike, clocked, clock-alike}
use Rattle.exportprepare.specs.Driving.{counts, no_number, longer, later-all, feeds-so, closes-so}
use Rattle.exportprepare.specs.Cutting.{into-portions}
use Rattle.exportprepare.specs.Along.{fresh-tray, sound-whole, starts-sound, starts_fit, call-is-zero, finish-is-zero, called-fit, feeds-called, closes-called, feeds-beyond, closes-numbers}
use Rattle.exportprepare.specs.Ending.{feeds-end, closes-end, stream_end, goes_on, feeds-fit, feeds-any, stream-fit, stream-any, closes_any, feeds-before, stream-before, closes_before}

-- ---- what is heard, one behind the other, and its log

heard-append : (ts us : List uncut.Told) → heard_all (ts ++ us) ≡ heard_all ts ++ heard_all us
unfolding heard_all
heard-append [] us = refl
heard-append (t ∷ ts) us = ap (λ hs. heard_of t ∷ hs) (heard-append ts us)

entries-heard : (t : uncut.Told) → entries_of (heard_of t) ≡ uncut.entries_of t
entries-heard (uncut.accepted header bytes entries) = refl
entries-heard (uncut.refused header bytes why) = refl
entries-heard (uncut.noise count) = refl

log-heard : (ts : List uncut.Told) → log_heard (heard_all ts) ≡ run_log ts
unfolding log_heard heard_all run_log
log-heard [] = refl
log-heard (t ∷ ts) = ap₂ (λ x y. x ++ y) (entries-heard t) (log-heard ts)

-- ---- what the theorems say of a stream

-- what is heard is what document 01 lays down for the uncut stream, in numbers; the entries heard are the uncut stream's run log; the tray's numbers and bytes are left as
-- they were lent; and the desk's numbers and the bytes of its books are those of the uncut stream, and read as them. The uncut stream's frame i has the second at which frame i
-- was heard.
abbrev pub LaidDown : Lent → Seconds → (stream : List ℕ) → (heard : List Heard) → (end : Lent) → Type 0
LaidDown lent seconds stream heard end =
    (heard ≡ heard_all (uncut_told (books_lent lent) seconds stream))
    × (log_heard heard ≡ uncut_log (books_lent lent) seconds stream)
    × (Ends lent (uncut_books (books_lent lent) seconds stream) end)
    × (books_lent end ≡ uncut_books (books_lent lent) seconds stream)

-- the entries heard are those in which each message is told by the live book as it was at the moment when its run opened, and the desk that is left keeps to the same
-- (`in-force` of crate prepare)
abbrev pub PlacedBy : Lent → Seconds → Snapshot → (stream : List ℕ) → (heard : List Heard) → (end : Lent) → Type 0
PlacedBy lent seconds opening stream heard end =
    (log_heard heard ≡ placed_log (books_lent lent) seconds opening (scan stream))
    × KeptOn (record { held = books_lent end; opening = opening_all (books_lent lent) seconds opening (scan stream) })

-- the same tray, bytes, desk and books
pub record SameLeft (end end' : Lent) : Type 0 where
  pub tray-same : end.tray ≡ end'.tray
  pub bytes_same : end.bytes ≡ end'.bytes
  pub desk-same : end.desk ≡ end'.desk
  pub live_same : end.live ≡ end'.live
  pub run-same : end.run ≡ end'.run

ends_same : {lent end end' : Lent} {books : Held} → Ends lent books end → Ends lent books end' → SameLeft end end'
ends_same e e' =
    record {
      tray-same = e.tray-as-lent ∙ sym e'.tray-as-lent;
      bytes_same = e.bytes-as-lent ∙ sym e'.bytes-as-lent;
      desk-same = e.desk-is ∙ sym e'.desk-is;
      live_same = e.live-is ∙ sym e'.live-is;
      run-same = e.run_is ∙ sym e'.run_is;
    }

module _ {lent : Lent} (s : Starts lent) where
  starts-state : state_in lent ≡ start lent.bytes (books_lent lent)
  starts-state = ap (λ t. state lent.bytes t (books_lent lent)) (fresh-tray lent.tray s.tray-fresh).1

  -- the calls of `prepare` that they are
  abbrev below : {c : Caller} {seconds : Seconds} {portions : List (List ℕ)} → Whole c seconds lent portions → driver.Whole c seconds lent.bytes (books_lent lent) portions
  below {c} {seconds} {portions} w =
      let f = feeds-so w.feeds in
      let g = closes-so w.closes in
      record {
        before = f.0;
        between = state_in w.between;
        feeds = subst (λ s. driver.Feeds c seconds s portions f.0 (state_in w.between)) starts-state f.1;
        after = g.0;
        end = state_in w.end;
        closes = subst (λ n. driver.Closes n (state_in w.between) g.0 (state_in w.end)) (ap (λ hs. later_all hs seconds) f.2 ∙ later-all f.0 seconds) g.1;
      }

  heard-below : {c : Caller} {seconds : Seconds} {portions : List (List ℕ)} (w : Whole c seconds lent portions) → w.before ++ w.after ≡ heard_all ((below w).before ++ (below w).after)
  heard-below w = ap₂ (λ x y. x ++ y) (feeds-so w.feeds).2 (closes-so w.closes).2 ∙ sym (heard-append (below w).before (below w).after)

  ends_so : {c : Caller} {seconds : Seconds} {portions : List (List ℕ)} (w : Whole c seconds lent portions) (books : Held) → state_in w.end ≡ start lent.bytes books → Ends lent books w.end
  unfolding laid tray_of desk_of
  ends_so w books e =
      let x = feeds-beyond w.feeds in
      let y = closes-numbers w.closes in
      record {
        tray-as-lent = y.0 ∙ ap₂ (λ t r. tray_of t ++ r) (ap (λ s. s.tray) e) x.0 ∙ ap (λ r. r ++ drop tray_room lent.tray) (sym s.tray-fresh) ∙ take-append-drop tray_room lent.tray;
        bytes-as-lent = ap (λ s. s.bytes) e;
        desk-is = y.1 ∙ ap₂ (λ d r. desk_of d ++ r) (ap (λ s. s.books.desk) e) x.1;
        live-is = ap (λ s. s.books.live) e;
        run_is = ap (λ s. s.books.run) e;
      }

  -- However a stream is cut into portions, some of them empty.
  pub prepared : {c : Caller} {seconds : Seconds} {portions : List (List ℕ)} (w : Whole c seconds lent portions)
      → LaidDown lent seconds (flatten portions) (w.before ++ w.after) w.end
  prepared {seconds = seconds} {portions} w =
      let x = prepare.prepared s.bytes-clear (starts-sound s) (below w) in
      let h = heard-below w ∙ ap heard_all x.0 in
      (h, ap log_heard h ∙ log-heard (uncut_told (books_lent lent) seconds (flatten portions)), ends_so w (uncut_books (books_lent lent) seconds (flatten portions)) x.2, ap (λ s. s.books) x.2)

  -- And the calls end, whatever the portions are and whoever lends the log and the places and says the seconds: what is lent and said may depend on how many calls were made, on all
  -- that was heard before, and on all that the last call left.
  pub prepared-ends : {c : Caller} (lends : Lender) → LendsRoom lends → (portions : List (List ℕ)) → WholeBy c lends lent portions
  prepared-ends lends rooms portions =
      let f = feeds-end lends rooms portions (point 0 [] lent) (starts_fit s) in
      let g = closes-end lends rooms f.end₁ f.fit in
      record { before = f.heard; between = f.end₁; feeds = f.feeds; after = g.heard; end = g.end₁; closes = g.closes }

  -- So they end with the same slices lent again and again, and any clock, read anew for each call.
  pub same-again-ends : {c : Caller} (clock : Point → ℕ) (portions : List (List ℕ)) → WholeBy c (same_again clock) lent portions
  same-again-ends clock portions = prepared-ends (same_again clock) (λ _ r. r) portions

  -- And so they do for one who hands over what is left of a stream, however it is cut, if a call that said hungry is followed by one that is handed some while bytes are
  -- left; the call behind an event may be handed none.
  pub stream-ends : {c : Caller} (lends : Lender) → LendsRoom lends → (cuts : Cutter) → GivesMore cuts → (stream : List ℕ) → WholeStreamBy c lends cuts lent stream
  stream-ends {c} lends rooms cuts gives stream =
      let f = stream_end lends rooms c cuts gives stream (point 0 [] lent) (starts_fit s) in
      let g = closes-end lends rooms f.end₁ f.fit in
      record { before = f.heard; between = f.end₁; feeds = f.feeds; after = g.heard; end = g.end₁; closes = g.closes }

  -- That is asked with reason: the calls never end where none of them is handed anything.
  pub nothing-handed : {c : Caller} {lends : Lender} {stream : List ℕ} → LendsRoom lends → 1 ≤ length stream → WholeStreamBy c lends (λ _ _. 0) lent stream → ⊥
  nothing-handed {lends = lends} rooms some w = goes_on lends rooms w.feeds (starts_fit s) (fresh-tray lent.tray s.tray-fresh).1 some

  -- Whoever lends and whoever cuts, and whatever the clock is, such calls are calls of Driver.antt, by which the same is heard and which leave the same, where the second of frame i
  -- is the one that the call by which it was heard was handed (`seconds_by`, `seconds_cut`): so all that is said here of `Whole`, `Feeds`, `FeedsStream` and `Closes` holds of them.
  pub any-lender : {c : Caller} {lends : Lender} {portions : List (List ℕ)} → LendsRoom lends → (w : WholeBy c lends lent portions)
      → (Feeds c (seconds_by w) lent portions w.before w.between.left) × (Closes (later_all w.before (seconds_by w)) w.between.left w.after w.end.left)
  any-lender {lends = lends} rooms w =
      let f = feeds-any lends rooms w.feeds (starts_fit s) (seconds_closed w.closes) in
      let g = closes_any lends rooms w.closes (feeds-fit lends rooms w.feeds (starts_fit s)) in
      (f.0, subst (λ n. Closes n w.between.left w.after w.end.left) (sym f.1) g)

  pub any-cutter : {c : Caller} {lends : Lender} {cuts : Cutter} {stream : List ℕ} → LendsRoom lends → (w : WholeStreamBy c lends cuts lent stream)
      → (FeedsStream (seconds_cut w) lent stream w.before w.between.left) × (Closes (later_all w.before (seconds_cut w)) w.between.left w.after w.end.left)
  any-cutter {lends = lends} rooms w =
      let f = stream-any lends rooms w.feeds (starts_fit s) (seconds_closed w.closes) in
      let g = closes_any lends rooms w.closes (stream-fit lends rooms w.feeds (starts_fit s)) in
      (f.0, subst (λ n. Closes n w.between.left w.after w.end.left) (sym f.1) g)

  -- the calls of `any-lender` as one record
  abbrev pub whole_by : {c : Caller} {lends : Lender} {portions : List (List ℕ)} → LendsRoom lends → (w : WholeBy c lends lent portions) → Whole c (seconds_by w) lent portions
  whole_by rooms w =
      let v = any-lender rooms w in record { before = w.before; between = w.between.left; feeds = v.0; after = w.after; end = w.end.left; closes = v.1 }

  -- At any seconds there are calls of `Whole`, whatever the portions are.
  pub any-seconds : {c : Caller} (seconds : Seconds) (portions : List (List ℕ)) → Whole c seconds lent portions
  any-seconds {c} seconds portions =
      let w : WholeBy c (clocked seconds) lent portions = prepared-ends (clocked seconds) (λ _ r. r) portions in
      whole-alike (whole_by (λ _ r. r) w) seconds (clock-alike seconds w)

  -- Two cuttings of one stream, "for equal frames with equal seconds": where each frame has the same second in both, all that is heard is the same, and so are the run log and what is
  -- left: the tray, its bytes, the desk and both books.
  pub two-cuttings : {c c' : Caller} {seconds seconds' : Seconds} {portions portions' : List (List ℕ)} (w : Whole c seconds lent portions) (w' : Whole c' seconds' lent portions')
      → flatten portions ≡ flatten portions' → Alike (frames_in (w.before ++ w.after)) seconds seconds'
      → (w.before ++ w.after ≡ w'.before ++ w'.after) × (log_heard (w.before ++ w.after) ≡ log_heard (w'.before ++ w'.after)) × SameLeft w.end w'.end
  two-cuttings {seconds' = seconds'} {portions} w w' q a =
      let x = prepared (whole-alike w seconds' a) in
      let y = subst (λ stream. LaidDown lent seconds' stream (w'.before ++ w'.after) w'.end) (sym q) (prepared w') in
      let h = x.0 ∙ sym y.0 in
      (h, ap log_heard h, ends_same x.2 y.2)

  -- Each of these calls has the number 0, as has every call and every finish, in any order and on any input, whatever log and places are lent and whatever the seconds are.
  pub never-refused : {l : Lent} → Called lent l → ((input : List ℕ) → call_number l input ≡ 0) × (finish_number l ≡ 0)
  never-refused k = let f = called-fit k (starts_fit s) in (λ input. call-is-zero _ f input, finish-is-zero _ f)

  -- "Each residual is placed by the area definition in force when its run opened", if that holds of the run that is open at the start.
  pub in-force : (opening : Snapshot) → KeptOn (record { held = books_lent lent; opening = opening }) → {c : Caller} {seconds : Seconds} {portions : List (List ℕ)}
      (w : Whole c seconds lent portions) → PlacedBy lent seconds opening (flatten portions) (w.before ++ w.after) w.end
  in-force opening k w =
      let x = prepare.in-force s.bytes-clear (starts-sound s) opening k (below w) in
      (ap log_heard (heard-below w) ∙ log-heard ((below w).before ++ (below w).after) ∙ x.0, x.1)

  -- A caller who hands over each time as much as it likes of what is left of the stream cuts it into portions all the same,
  pub recut : {seconds : Seconds} {stream : List ℕ} {before : List Heard} {between : Lent} → FeedsStream seconds lent stream before between
      → (portions : List (List ℕ)) × (Feeds hurries seconds lent portions before between) × (flatten portions ≡ stream)
  recut f = into-portions f

  -- so that `prepared`, `in-force` and `two-cuttings` hold of it too.
  module _ {seconds : Seconds} {stream : List ℕ} {before after : List Heard} {between end : Lent} (f : FeedsStream seconds lent stream before between)
      (g : Closes (later_all before seconds) between after end) where
    abbrev pub portioned : Whole hurries seconds lent (recut f).0
    portioned = record { before = before; between = between; feeds = (recut f).1; after = after; end = end; closes = g }

    pub prepared-stream : LaidDown lent seconds stream (before ++ after) end
    prepared-stream = subst (λ stream. LaidDown lent seconds stream (before ++ after) end) (recut f).2 (prepared portioned)

    pub in-force-stream : (opening : Snapshot) → KeptOn (record { held = books_lent lent; opening = opening }) → PlacedBy lent seconds opening stream (before ++ after) end
    in-force-stream opening k = subst (λ stream. PlacedBy lent seconds opening stream (before ++ after) end) (recut f).2 (in-force opening k portioned)

    module _ {seconds' : Seconds} {before' after' : List Heard} {between' end' : Lent} (f' : FeedsStream seconds' lent stream before' between')
        (g' : Closes (later_all before' seconds') between' after' end') where
      pub two-streams : Alike (frames_in (before ++ after)) seconds seconds'
          → (before ++ after ≡ before' ++ after') × (log_heard (before ++ after) ≡ log_heard (before' ++ after')) × SameLeft end end'
      two-streams a =
          let portioned' : Whole hurries seconds' lent (recut f').0 = record { before = before'; between = between'; feeds = (recut f').1; after = after'; end = end'; closes = g' } in
          two-cuttings portioned portioned' ((recut f).2 ∙ sym (recut f').2) a

  -- Before finish, once the last call has said hungry, what is heard and the states as the next call reads them depend on nothing but the joined bytes and the seconds of the frames
  -- heard.
  pub cut : {seconds seconds' : Seconds} {portions portions' : List (List ℕ)} {hs hs' : List Heard} {l l' : Lent}
      → Feeds waits seconds lent portions hs l → Feeds waits seconds' lent portions' hs' l' → flatten portions ≡ flatten portions' → Alike (frames_in hs) seconds seconds'
      → (hs ≡ hs') × (state_in l ≡ state_in l')
  cut {seconds} {seconds'} {portions} {portions'} {l = l} {l'} f f' q a =
      let x = feeds-so f in
      let y = feeds-so f' in
      let z = prepare.cut s.bytes-clear (starts-sound s)
      (subst (λ s. driver.Feeds waits seconds s portions x.0 (state_in l)) starts-state x.1)
      (subst (λ s. driver.Feeds waits seconds' s portions' y.0 (state_in l')) starts-state y.1) q
      (λ i h. a i (omega (arith, h, ap frames_in x.2, frames-told x.0))) in
      (x.2 ∙ ap heard_all z.0 ∙ sym y.2, z.1)

  -- What is heard before finish on a stream is heard first on every longer stream that begins with it, where each frame heard has the same second in both.
  pub prefix : {c : Caller} {seconds seconds' : Seconds} {portions portions' : List (List ℕ)} {hs hs' : List Heard} {l l' : Lent}
      → Feeds c seconds lent portions hs l → Feeds waits seconds' lent portions' hs' l' → (more : List ℕ) → flatten portions' ≡ flatten portions ++ more
      → Alike (frames_in hs) seconds seconds'
      → (rest : List Heard) × (hs' ≡ hs ++ rest)
  prefix {c} {seconds} {seconds'} {portions} {portions'} {l = l} {l'} f f' more q a =
      let x = feeds-so f in
      let y = feeds-so f' in
      let z = prepare.prefix s.bytes-clear (starts-sound s)
      (subst (λ s. driver.Feeds c seconds s portions x.0 (state_in l)) starts-state x.1)
      (subst (λ s. driver.Feeds waits seconds' s portions' y.0 (state_in l')) starts-state y.1) more q
      (λ i h. a i (omega (arith, h, ap frames_in x.2, frames-told x.0))) in
      (heard_all z.0, y.2 ∙ ap heard_all z.1 ∙ heard-append x.0 z.0 ∙ ap (λ hs. hs ++ heard_all z.0) (sym x.2))

  -- A further stream may follow: what is lent at the end may start.
  pub starts-again : {c : Caller} {seconds : Seconds} {portions : List (List ℕ)} (w : Whole c seconds lent portions) → Starts w.end
  starts-again w =
      let e = (prepared w).2 in
      let f = called-fit (closes-called w.closes (feeds-called w.feeds none_yet)) (starts_fit s) in
      let b = f.ready.books-sound in
      record {
        tray-fresh = ap (take tray_room) e.tray-as-lent ∙ s.tray-fresh;
        bytes-clear = subst (λ bytes. Clear bytes) (sym e.bytes-as-lent) s.bytes-clear;
        desk-sound = sound-whole w.end.desk w.end.live w.end.run f.there.desk-room b.live-room b.run_room b.is-sound;
        rooms = record { log-room = f.log-room; told-room = f.there.told-room; header-room = f.there.header-room };
      }

-- What a lender and a cutter may look at before finish, and at the end, holds all that was heard before.
pub lender-knows : {c : Caller} {lends : Lender} {lent : Lent} {portions : List (List ℕ)} (w : WholeBy c lends lent portions)
    → (w.between.heard ≡ w.before) × (w.end.heard ≡ w.before ++ w.after)
lender-knows w = let f = feeds-before w.feeds in (f, closes_before w.closes ∙ ap (λ hs. hs ++ w.after) f)

pub cutter-knows : {c : Caller} {lends : Lender} {cuts : Cutter} {lent : Lent} {stream : List ℕ} (w : WholeStreamBy c lends cuts lent stream)
    → (w.between.heard ≡ w.before) × (w.end.heard ≡ w.before ++ w.after)
cutter-knows w = let f = stream-before w.feeds in (f, closes_before w.closes ∙ ap (λ hs. hs ++ w.after) f)

-- The number heard of a frame that the desk refused is not 0.
pub refused-heard : (why : Refusal) → number_of why ≡ 0 → ⊥
refused-heard why e = omega (arith, counts why)

-- ---- a new desk may start: the numbers that homralgyu_desk_new leaves when it answers 0, with any bytes that have room for its books

module _ (solution processor constellation : ℕ) (numbers live run : List ℕ) (e : answered desk_room numbers (told_new (new_desk solution processor constellation)) ≡ 0) where
  abbrev pub new_numbers : List ℕ
  new_numbers = lent_after desk_room numbers (told_new (new_desk solution processor constellation))

  is_made : (n : NewDesk) → new_desk solution processor constellation ≡ n → (told_new n).number ≡ 0 → (desk : Desk) × (new_desk solution processor constellation ≡ Ok desk)
  unfolding told_new
  is_made (Ok desk) q z = (desk, q)
  is_made (Err why) q z = absurd (omega (arith, counts why))

  parts : (ltb (length numbers) desk_room ≡ false) × ((told_new (new_desk solution processor constellation)).number ≡ 0)
  unfolding answered room_for
  parts = no_number (ltb (length numbers) desk_room) _ e

  made : (desk : Desk) × (new_desk solution processor constellation ≡ Ok desk)
  made = is_made (new_desk solution processor constellation) refl parts.1

  numbers-are : new_numbers ≡ laid (desk_of made.0) numbers
  unfolding lent_after room_for told_new
  numbers-are = rw (parts.0, made.1)

  module _ (hl : book_bytes ≤ length live) where
    reads : desk_in new_numbers ≡ made.0
    reads = ap desk_in numbers-are ∙ reads-back made.0 live run numbers (new-sound solution processor constellation made.0 live run made.1 hl)

    pub new-starts : book_bytes ≤ length run → sound_of new_numbers live run ≡ 0
    new-starts hr =
        sound-whole new_numbers live run (subst (λ n. desk_room ≤ length n) (sym numbers-are) (omega (arith, ltb-false (length numbers) desk_room parts.0, longer (desk_of made.0) numbers))) hl hr
        (ap (λ d. desk_sound d live run) reads ∙ new-sound solution processor constellation made.0 live run made.1 hl)

    pub new-kept : (opening : Snapshot) → KeptOn (record { held = books_in (desk_in new_numbers) live run; opening = opening })
    new-kept opening =
        subst (λ d. KeptOn (record { held = books_in d live run; opening = opening })) (sym reads)
        (prepare.fresh_kept solution processor constellation made.0 made.1 live run opening)
