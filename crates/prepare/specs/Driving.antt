-- Serves proofs: preparing a stream call by call is reading it call by call, and the desk goes along with the events. Proved; assumes nothing.
use Rattle.std.specs.Prelude.{◌≡◌, refl, List, [], ◌∷◌, ◌++◌, ℕ, suc, ◌≤◌, length, drop}
use Rattle.std.proofs.Common.{sym, ap₂, ◌∙◌, subst, append_assoc, append-nil, arith, length-append, length-drop}
use Rattle.std.proofs.Math.Path.{ap}
use Rattle.stream.specs.declared.Tray.{Tray}
use Rattle.stream.specs.Scan.{Event, frame, noise}
use Rattle.stream.specs.Tray as stream
use Rattle.stream.specs.Driver as streaming
use Rattle.stream.specs.Driver.{Caller, GoesOn}
use Rattle.stream.specs.Driving.{call-ready, finish-ready}
use Rattle.stream.specs.Kept.{Good}
use Rattle.stream.specs.Steps.{call_kept, end_kept}
use Rattle.sizes.specs.Sizes.{log_room}
use Rattle.desk.specs.Take as desk
use Rattle.desk.specs.History.{Held}
use Rattle.prepare.specs.declared.Said.TheVariants as said
use Rattle.prepare.specs.Uncut.{Told, accepted, refused, noise as told-noise, verdict_on, handled_on, told_by, told_of, books_after, Seconds, later, told_all, books_all, entries_of, run_log}
use Rattle.prepare.specs.Prepare.{Handed, call_outcome, finish_outcome, books_of, log_of}
use Rattle.prepare.specs.Driver.{State, Sound, Lent, lent, call_says, call_leaves, call_logs, finish_says, finish_leaves, finish_logs, InTime, later_by, later_all, Feeds, Closes, start}
use Rattle.prepare.specs.Lender.{Point, point, Lender, LendsRoom, call_answers, CallTells, called, FinishTells, finished, FeedsBy, ClosesBy, WholeBy, told_then, seconds_fed, seconds_closed, seconds_by}
use Rattle.prepare.specs.Steps.{guarded-is, forth, back, is-told, tells-so, is-hungry, is-done, hungry-is, done-is}
use Rattle.prepare.specs.Stays.{sound-after}

-- a state that a call takes
pub record Ready (s : State) : Type 0 where
  pub tray-ready : streaming.Ready s.bytes s.tray
  pub books-sound : Sound s.books

abbrev at : List ℕ → Tray → Held → State
at bytes tray books = record { bytes = bytes; tray = tray; books = books }

call-is : (s : State) (given : Lent) (p : List ℕ) → Ready s → log_room ≤ length given.log → call_outcome (lent s given) p ≡ stream.called s.bytes s.tray p
unfolding call_outcome
call-is s given p r h = guarded-is (lent s given) (stream.called s.bytes s.tray p) r.tray-ready r.books-sound h

finish-is : (s : State) (given : Lent) → Ready s → log_room ≤ length given.log → finish_outcome (lent s given) ≡ stream.finished s.bytes s.tray
unfolding finish_outcome
finish-is s given r h = guarded-is (lent s given) (stream.finished s.bytes s.tray) r.tray-ready r.books-sound h

-- ---- a frame that is told at its second

-- the seconds behind some events
unfoldable pub later_on : List Event → Seconds → Seconds
later_on [] seconds = seconds
later_on (event ∷ events) seconds = later_on events (later event seconds)

-- what is told at a frame's second is told with the first of the seconds; noise is told with any
pub record OnTime (books : Held) (second : ℕ) (seconds : Seconds) (t : Told) (e : Event) : Type 0 where
  pub told : told_of books second e ≡ told_of books (seconds 0) e
  pub books-then : books_after books second e ≡ books_after books (seconds 0) e
  pub behind : later_by t seconds ≡ later e seconds

on-time : (books : Held) (second : ℕ) (seconds : Seconds) (e : Event) → InTime (told_of books second e) second seconds → OnTime books second seconds (told_of books second e) e
on-time books second seconds (noise n) k = record { told = refl; books-then = refl; behind = refl }
on-time books second seconds (frame f b) k = go (handled_on books second b) (verdict_on books second b) refl k
  where
    at_once : second ≡ seconds 0 → (t : Told) → later_by t seconds ≡ later (frame f b) seconds → OnTime books second seconds t (frame f b)
    at_once q t z = record { told = ap (λ n. told_of books n (frame f b)) q; books-then = ap (λ n. books_after books n (frame f b)) q; behind = z }

    go : (h : Held) (v : desk.Verdict) → verdict_on books second b ≡ v → InTime (told_by h f b v) second seconds → OnTime books second seconds (told_by h f b v) (frame f b)
    go h (desk.refused why) e k = at_once k (told_by h f b (desk.refused why)) refl
    go h (desk.defines book live) e k = at_once k (told_by h f b (desk.defines book live)) refl
    go h (desk.continues book message) e k = at_once k (told_by h f b (desk.continues book message)) refl
    go h (desk.opens tag message) e k = at_once k (told_by h f b (desk.opens tag message)) refl

on-time-as : (books : Held) (second : ℕ) (seconds : Seconds) (e : Event) (t : Told) → t ≡ told_of books second e → InTime t second seconds → OnTime books second seconds t e
on-time-as books second seconds e t q k =
    subst (λ t. OnTime books second seconds t e) (sym q) (on-time books second seconds e (subst (λ t. InTime t second seconds) q k))

-- the stream's calls beside those of stream and desk: its events, and what the desk makes of them
pub record Fed (c : Caller) (seconds : Seconds) (s : State) (ps : List (List ℕ)) (ts : List Told) (s₁ : State) : Type 0 where
  pub events : List Event
  pub feeds : streaming.Feeds c s.bytes s.tray ps events s₁.bytes s₁.tray
  pub told : ts ≡ told_all s.books seconds events
  pub books : s₁.books ≡ books_all s.books seconds events
  pub behind : later_all ts seconds ≡ later_on events seconds

pub record Closed (seconds : Seconds) (s : State) (ts : List Told) (s₁ : State) : Type 0 where
  pub events : List Event
  pub closes : streaming.Closes s.bytes s.tray events s₁.bytes s₁.tray
  pub told : ts ≡ told_all s.books seconds events
  pub books : s₁.books ≡ books_all s.books seconds events

-- a state that is ready is ready afterwards

module _ (s : State) (given : Lent) (r : Ready s) (h : log_room ≤ length given.log) where
  module _ (p : List ℕ) where
    abbrev call-o : stream.Outcome
    call-o = stream.called s.bytes s.tray p

    call-good : Good call-o
    call-good = call_kept s.bytes s.tray p r.tray-ready

    call_back : (R : List ℕ → Tray → ℕ → Held → Type 0)
        → R (stream.call_bytes s.bytes s.tray p) (stream.call_answer s.bytes s.tray p).tray (stream.call_answer s.bytes s.tray p).used (books_of (lent s given) call-o)
        → R (call_leaves s given p).bytes (call_leaves s given p).tray (call_says s given p).used (call_leaves s given p).books
    call_back = back (lent s given) (call_outcome (lent s given) p) call-o (call-is s given p r h)

    call-forth : (R : List ℕ → Tray → ℕ → Held → Type 0)
        → R (call_leaves s given p).bytes (call_leaves s given p).tray (call_says s given p).used (call_leaves s given p).books
        → R (stream.call_bytes s.bytes s.tray p) (stream.call_answer s.bytes s.tray p).tray (stream.call_answer s.bytes s.tray p).used (books_of (lent s given) call-o)
    call-forth = forth (lent s given) (call_outcome (lent s given) p) call-o (call-is s given p r h)

    call_stays : (d : Held) → Sound d → books_of (lent s given) call-o ≡ d → Ready (call_leaves s given p)
    call_stays d sd q =
        call_back (λ b t u d. Ready (at b t d))
        (record { tray-ready = call-ready r.tray-ready p; books-sound = subst (λ d. Sound d) (sym q) sd })

  abbrev end-o : stream.Outcome
  end-o = stream.finished s.bytes s.tray

  end-good : Good end-o
  end-good = end_kept s.bytes s.tray r.tray-ready

  end_back : (R : List ℕ → Tray → ℕ → Held → Type 0)
      → R (stream.finish_bytes s.bytes s.tray) (stream.finish_answer s.bytes s.tray).tray (stream.finish_answer s.bytes s.tray).used (books_of (lent s given) end-o)
      → R (finish_leaves s given).bytes (finish_leaves s given).tray (finish_says s given).used (finish_leaves s given).books
  end_back = back (lent s given) (finish_outcome (lent s given)) end-o (finish-is s given r h)

  end-forth : (R : List ℕ → Tray → ℕ → Held → Type 0)
      → R (finish_leaves s given).bytes (finish_leaves s given).tray (finish_says s given).used (finish_leaves s given).books
      → R (stream.finish_bytes s.bytes s.tray) (stream.finish_answer s.bytes s.tray).tray (stream.finish_answer s.bytes s.tray).used (books_of (lent s given) end-o)
  end-forth = forth (lent s given) (finish_outcome (lent s given)) end-o (finish-is s given r h)

  end_stays : (d : Held) → Sound d → books_of (lent s given) end-o ≡ d → Ready (finish_leaves s given)
  end_stays d sd q =
      end_back (λ b t u d. Ready (at b t d))
      (record { tray-ready = finish-ready r.tray-ready; books-sound = subst (λ d. Sound d) (sym q) sd })

-- ---- from the calls of stream and desk to those of the stream

pub feeds-so : {c : Caller} {seconds : Seconds} {s s₁ : State} {ps : List (List ℕ)} {ts : List Told} → Feeds c seconds s ps ts s₁ → Ready s → Fed c seconds s ps ts s₁
unfolding told_all books_all later_all later_on
feeds-so Feeds.no_more r = record { events = []; feeds = streaming.Feeds.no_more; told = refl; books = refl; behind = refl }
feeds-so {c} (Feeds.an-event {seconds} {s} {s₁} {p} {ps} {t} {ts} given h k i f) r =
    let w = is-told (lent s given) (call_outcome (lent s given) p) (call-o s given r h p) (call-is s given p r h) (call-good s given r h p) t k in
    let o = on-time-as s.books given.second seconds w.0 t w.2 i in
    let then = w.3 ∙ o.books-then in
    let x = feeds-so f (call_stays s given r h p (books_after s.books (seconds 0) w.0) (sound-after r.books-sound (seconds 0) w.0) then) in
    let y = call-forth s given r h p (λ b t' u d. Fed c (later_by t seconds) (at b t' d) (drop u p ∷ ps) ts s₁) x in
    let z = subst (λ d. Fed c (later_by t seconds) (at (stream.call_bytes s.bytes s.tray p) (stream.call_answer s.bytes s.tray p).tray d)
    (drop (stream.call_answer s.bytes s.tray p).used p ∷ ps) ts s₁) then y in
    let v = subst (λ n. Fed c n (at (stream.call_bytes s.bytes s.tray p) (stream.call_answer s.bytes s.tray p).tray (books_after s.books (seconds 0) w.0))
    (drop (stream.call_answer s.bytes s.tray p).used p ∷ ps) ts s₁) o.behind z in
    record {
      events = w.0 ∷ v.events;
      feeds = streaming.Feeds.an-event w.1 v.feeds;
      told = ap₂ (λ a l. a ∷ l) (w.2 ∙ o.told) v.told;
      books = v.books;
      behind = ap (later_all ts) o.behind ∙ v.behind;
    }
feeds-so {c} (Feeds.all-used {seconds} {s} {s₁} {p} {ps} {ts} given h k f) r =
    let w = is-hungry (lent s given) (call_outcome (lent s given) p) (call-o s given r h p) (call-is s given p r h) k in
    let x = feeds-so f (call_stays s given r h p s.books r.books-sound w.1) in
    let y = call-forth s given r h p (λ b t u d. Fed c seconds (at b t d) ps ts s₁) x in
    let z = subst (λ d. Fed c seconds (at (stream.call_bytes s.bytes s.tray p) (stream.call_answer s.bytes s.tray p).tray d) ps ts s₁) w.1 y in
    record { events = z.events; feeds = streaming.Feeds.all-used w.0 z.feeds; told = z.told; books = z.books; behind = z.behind }
feeds-so (Feeds.passed_over g f) r =
    let x = feeds-so f r in record { events = x.events; feeds = streaming.Feeds.passed_over g x.feeds; told = x.told; books = x.books; behind = x.behind }

pub feeds-ready : {c : Caller} {seconds : Seconds} {s s₁ : State} {ps : List (List ℕ)} {ts : List Told} → Feeds c seconds s ps ts s₁ → Ready s → Ready s₁
feeds-ready Feeds.no_more r = r
feeds-ready (Feeds.an-event {s = s} {p = p} {t = t} given h k i f) r =
    let w = is-told (lent s given) (call_outcome (lent s given) p) (call-o s given r h p) (call-is s given p r h) (call-good s given r h p) t k in
    feeds-ready f (call_stays s given r h p (books_after s.books given.second w.0) (sound-after r.books-sound given.second w.0) w.3)
feeds-ready (Feeds.all-used {s = s} {p = p} given h k f) r =
    let w = is-hungry (lent s given) (call_outcome (lent s given) p) (call-o s given r h p) (call-is s given p r h) k in
    feeds-ready f (call_stays s given r h p s.books r.books-sound w.1)
feeds-ready (Feeds.passed_over g f) r = feeds-ready f r

pub closes-so : {seconds : Seconds} {s s₁ : State} {ts : List Told} → Closes seconds s ts s₁ → Ready s → Closed seconds s ts s₁
unfolding told_all books_all
closes-so (Closes.an-event {seconds} {s} {s₁} {t} {ts} given h k i f) r =
    let w = is-told (lent s given) (finish_outcome (lent s given)) (end-o s given r h) (finish-is s given r h) (end-good s given r h) t k in
    let o = on-time-as s.books given.second seconds w.0 t w.2 i in
    let then = w.3 ∙ o.books-then in
    let x = closes-so f (end_stays s given r h (books_after s.books (seconds 0) w.0) (sound-after r.books-sound (seconds 0) w.0) then) in
    let y = end-forth s given r h (λ b t' u d. Closed (later_by t seconds) (at b t' d) ts s₁) x in
    let z = subst (λ d. Closed (later_by t seconds) (at (stream.finish_bytes s.bytes s.tray) (stream.finish_answer s.bytes s.tray).tray d) ts s₁) then y in
    let v = subst (λ n. Closed n (at (stream.finish_bytes s.bytes s.tray) (stream.finish_answer s.bytes s.tray).tray (books_after s.books (seconds 0) w.0)) ts s₁) o.behind z in
    record { events = w.0 ∷ v.events; closes = streaming.Closes.an-event w.1 v.closes; told = ap₂ (λ a l. a ∷ l) (w.2 ∙ o.told) v.told; books = v.books }
closes-so (Closes.is-done {seconds} {s} given h k) r =
    let w = is-done (lent s given) (finish_outcome (lent s given)) (end-o s given r h) (finish-is s given r h) k in
    end_back s given r h (λ b t u d. Closed seconds s [] (at b t d))
    (record { events = []; closes = streaming.Closes.is-done w.0; told = refl; books = w.1 })

-- ---- and back: where the stream's calls end, those of stream and desk do

-- no call makes the log shorter
pub logs-room : (handed : Handed) (o : stream.Outcome) → log_room ≤ length handed.log → log_room ≤ length (log_of handed o)
logs-room handed (stream.refused r) h = h
logs-room handed (stream.told e c n) h = simp (length-append, length-drop) (omega arith)
logs-room handed (stream.hungry c n) h = h
logs-room handed (stream.done c) h = h

-- the calls from a point on end, with some log that has room, in a state whose tray and bytes are the stream's
pub record FedOn (c : Caller) (lends : Lender) (x : Point) (ps : List (List ℕ)) (bytes₁ : List ℕ) (tray₁ : Tray) : Type 0 where
  pub told : List Told
  pub calls₁ : ℕ
  pub before₁ : List Told
  pub books₁ : Held
  pub left₁ : List ℕ
  pub feeds : FeedsBy c lends x ps told (point calls₁ before₁ (at bytes₁ tray₁ books₁) left₁)
  pub room : log_room ≤ length left₁
  pub is-sound : Sound books₁

pub record ClosedOn (lends : Lender) (x : Point) (bytes₁ : List ℕ) (tray₁ : Tray) : Type 0 where
  pub told : List Told
  pub calls₁ : ℕ
  pub before₁ : List Told
  pub books₁ : Held
  pub left₁ : List ℕ
  pub closes : ClosesBy lends x told (point calls₁ before₁ (at bytes₁ tray₁ books₁) left₁)

-- both together
pub whole-on : {c : Caller} {lends : Lender} {bytes log : List ℕ} {books : Held} {ps : List (List ℕ)} {b b₁ : List ℕ} {t t₁ : Tray}
    (f : FedOn c lends (point 0 [] (start bytes books) log) ps b t) → ClosedOn lends (point f.calls₁ f.before₁ (at b t f.books₁) f.left₁) b₁ t₁ → WholeBy c lends bytes books log ps
whole-on {b = b} {b₁} {t} {t₁} f g =
    record {
      before = f.told;
      between = point f.calls₁ f.before₁ (at b t f.books₁) f.left₁;
      feeds = f.feeds;
      after = g.told;
      end = point g.calls₁ g.before₁ (at b₁ t₁ g.books₁) g.left₁;
      closes = g.closes;
    }

-- one call more before them
module _ {lends : Lender} {x : Point} {b₁ : List ℕ} {t₁ : Tray} where
  fed-event : {c : Caller} {p : List ℕ} {ps : List (List ℕ)} (t : Told) → CallTells lends x p t
      → FedOn c lends (called lends x p (x.before ++ t ∷ [])) (drop (call_answers lends x p).used p ∷ ps) b₁ t₁ → FedOn c lends x (p ∷ ps) b₁ t₁
  fed-event t k y =
      record { told = t ∷ y.told; calls₁ = y.calls₁; before₁ = y.before₁; books₁ = y.books₁; left₁ = y.left₁; feeds = FeedsBy.an-event k y.feeds; room = y.room; is-sound = y.is-sound }

  fed-used : {c : Caller} {p : List ℕ} {ps : List (List ℕ)} → (call_answers lends x p).said ≡ said.Hungry
      → FedOn c lends (called lends x p x.before) ps b₁ t₁ → FedOn c lends x (p ∷ ps) b₁ t₁
  fed-used k y =
      record { told = y.told; calls₁ = y.calls₁; before₁ = y.before₁; books₁ = y.books₁; left₁ = y.left₁; feeds = FeedsBy.all-used k y.feeds; room = y.room; is-sound = y.is-sound }

  fed-over : {c : Caller} {ps : List (List ℕ)} → GoesOn c → FedOn c lends x ps b₁ t₁ → FedOn c lends x ([] ∷ ps) b₁ t₁
  fed-over g y =
      record { told = y.told; calls₁ = y.calls₁; before₁ = y.before₁; books₁ = y.books₁; left₁ = y.left₁; feeds = FeedsBy.passed_over g y.feeds; room = y.room; is-sound = y.is-sound }

  closed-event : (t : Told) → FinishTells lends x t → ClosedOn lends (finished lends x (x.before ++ t ∷ [])) b₁ t₁ → ClosedOn lends x b₁ t₁
  closed-event t k y = record { told = t ∷ y.told; calls₁ = y.calls₁; before₁ = y.before₁; books₁ = y.books₁; left₁ = y.left₁; closes = ClosesBy.an-event k y.closes }

module _ (lends : Lender) (rooms : LendsRoom lends) where
  pub so-feeds : {c : Caller} {b b₁ : List ℕ} {t t₁ : Tray} {ps : List (List ℕ)} {es : List Event} → streaming.Feeds c b t ps es b₁ t₁ → (d : Held) → Ready (at b t d)
      → (calls : ℕ) (before : List Told) (left : List ℕ) → log_room ≤ length left → FedOn c lends (point calls before (at b t d) left) ps b₁ t₁
  so-feeds streaming.Feeds.no_more d r calls before left room =
      record { told = []; calls₁ = calls; before₁ = before; books₁ = d; left₁ = left; feeds = FeedsBy.no_more; room = room; is-sound = r.books-sound }
  so-feeds {c} (streaming.Feeds.an-event {b} {b₁} {t} {t₁} {p} {ps} {e} {es} k f) d r calls before left room =
      let s = at b t d in
      let given = lends (point calls before s left) in
      let h = rooms (point calls before s left) room in
      let w = tells-so (lent s given) (call_outcome (lent s given) p) (call-o s given r h p) (call-is s given p r h) (call-good s given r h p) e k in
      let told = before ++ told_of d given.second e ∷ [] in
      let left₁ = call_logs s given p in
      let x = so-feeds f (books_after d given.second e) (record { tray-ready = call-ready r.tray-ready p; books-sound = sound-after r.books-sound given.second e }) (suc calls) told left₁
      (logs-room (lent s given) (call_outcome (lent s given) p) h) in
      let y = subst (λ m. FedOn c lends (point (suc calls) told (at (stream.call_bytes b t p) (stream.call_answer b t p).tray m) left₁) (drop (stream.call_answer b t p).used p ∷ ps) b₁ t₁) (sym w.1) x in
      fed-event (told_of d given.second e) w.0 (call_back s given r h p (λ b t u m. FedOn c lends (point (suc calls) told (at b t m) left₁) (drop u p ∷ ps) b₁ t₁) y)
  so-feeds {c} (streaming.Feeds.all-used {b} {b₁} {t} {t₁} {p} {ps} {es} k f) d r calls before left room =
      let s = at b t d in
      let given = lends (point calls before s left) in
      let h = rooms (point calls before s left) room in
      let w = hungry-is (lent s given) (call_outcome (lent s given) p) (call-o s given r h p) (call-is s given p r h) k in
      let left₁ = call_logs s given p in
      let x = so-feeds f d (record { tray-ready = call-ready r.tray-ready p; books-sound = r.books-sound }) (suc calls) before left₁
      (logs-room (lent s given) (call_outcome (lent s given) p) h) in
      let y = subst (λ m. FedOn c lends (point (suc calls) before (at (stream.call_bytes b t p) (stream.call_answer b t p).tray m) left₁) ps b₁ t₁) (sym w.1) x in
      fed-used w.0 (call_back s given r h p (λ b t u m. FedOn c lends (point (suc calls) before (at b t m) left₁) ps b₁ t₁) y)
  so-feeds (streaming.Feeds.passed_over g f) d r calls before left room = fed-over g (so-feeds f d r calls before left room)

  pub so-closes : {b b₁ : List ℕ} {t t₁ : Tray} {es : List Event} → streaming.Closes b t es b₁ t₁ → (d : Held) → Ready (at b t d)
      → (calls : ℕ) (before : List Told) (left : List ℕ) → log_room ≤ length left → ClosedOn lends (point calls before (at b t d) left) b₁ t₁
  so-closes (streaming.Closes.an-event {b} {b₁} {t} {t₁} {e} {es} k f) d r calls before left room =
      let s = at b t d in
      let given = lends (point calls before s left) in
      let h = rooms (point calls before s left) room in
      let w = tells-so (lent s given) (finish_outcome (lent s given)) (end-o s given r h) (finish-is s given r h) (end-good s given r h) e k in
      let told = before ++ told_of d given.second e ∷ [] in
      let left₁ = finish_logs s given in
      let x = so-closes f (books_after d given.second e) (record { tray-ready = finish-ready r.tray-ready; books-sound = sound-after r.books-sound given.second e }) (suc calls) told left₁
      (logs-room (lent s given) (finish_outcome (lent s given)) h) in
      let y = subst (λ m. ClosedOn lends (point (suc calls) told (at (stream.finish_bytes b t) (stream.finish_answer b t).tray m) left₁) b₁ t₁) (sym w.1) x in
      closed-event (told_of d given.second e) w.0 (end_back s given r h (λ b t u m. ClosedOn lends (point (suc calls) told (at b t m) left₁) b₁ t₁) y)
  so-closes (streaming.Closes.is-done {b} {t} k) d r calls before left room =
      let s = at b t d in
      let given = lends (point calls before s left) in
      let h = rooms (point calls before s left) room in
      let w = done-is (lent s given) (finish_outcome (lent s given)) (end-o s given r h) (finish-is s given r h) k in
      let n = books_of (lent s given) (end-o s given r h) in
      let ends : List ℕ → Tray → ℕ → Held → Type 0 = λ b t u m. ClosesBy lends (point calls before s left) [] (point (suc calls) before (at b t m) (finish_logs s given)) in
      record { told = []; calls₁ = suc calls; before₁ = before; books₁ = n; left₁ = finish_logs s given; closes = end-forth s given r h ends (ClosesBy.is-done w.0) }

-- ---- such calls are calls of `Feeds` and `Closes`, at the seconds that they were handed: each is lent a log that has room

pub then-time : (t : Told) (second : ℕ) (behind : Seconds) → InTime t second (told_then t second behind)
then-time (accepted header bytes entries) second behind = refl
then-time (refused header bytes why) second behind = refl
then-time (told-noise count) second behind = tt

pub then-later : (t : Told) (second : ℕ) (behind : Seconds) → later_by t (told_then t second behind) ≡ behind
then-later (accepted header bytes entries) second behind = refl
then-later (refused header bytes why) second behind = refl
then-later (told-noise count) second behind = refl

module _ (lends : Lender) (rooms : LendsRoom lends) where
  feeds-room : {c : Caller} {x x₁ : Point} {ps : List (List ℕ)} {ts : List Told} → FeedsBy c lends x ps ts x₁ → log_room ≤ length x.left → log_room ≤ length x₁.left
  feeds-room FeedsBy.no_more h = h
  feeds-room (FeedsBy.an-event {x} {p = p} k f) h = let l = lent x.state (lends x) in feeds-room f (logs-room l (call_outcome l p) (rooms x h))
  feeds-room (FeedsBy.all-used {x} {p = p} k f) h = let l = lent x.state (lends x) in feeds-room f (logs-room l (call_outcome l p) (rooms x h))
  feeds-room (FeedsBy.passed_over g f) h = feeds-room f h

  feeds-any : {c : Caller} {x x₁ : Point} {ps : List (List ℕ)} {ts : List Told} (f : FeedsBy c lends x ps ts x₁) → log_room ≤ length x.left → (behind : Seconds)
      → (Feeds c (seconds_fed f behind) x.state ps ts x₁.state) × (later_all ts (seconds_fed f behind) ≡ behind)
  unfolding later_all seconds_fed
  feeds-any FeedsBy.no_more h behind = (Feeds.no_more, refl)
  feeds-any {c} (FeedsBy.an-event {x} {x₁} {p} {ps} {t} {ts} k f) h behind =
      let l = lent x.state (lends x) in
      let y = feeds-any f (logs-room l (call_outcome l p) (rooms x h)) behind in
      let e = then-later t (lends x).second (seconds_fed f behind) in (
        Feeds.an-event (lends x) (rooms x h) k (then-time t (lends x).second (seconds_fed f behind))
            (subst (λ z. Feeds c z (call_leaves x.state (lends x) p) (drop (call_says x.state (lends x) p).used p ∷ ps) ts x₁.state) (sym e) y.0),
        ap (later_all ts) e ∙ y.1,
      )
  feeds-any (FeedsBy.all-used {x} {p = p} k f) h behind =
      let l = lent x.state (lends x) in
      let y = feeds-any f (logs-room l (call_outcome l p) (rooms x h)) behind in
      (Feeds.all-used (lends x) (rooms x h) k y.0, y.1)
  feeds-any (FeedsBy.passed_over g f) h behind = let y = feeds-any f h behind in (Feeds.passed_over g y.0, y.1)

  closes_any : {x x₁ : Point} {ts : List Told} (f : ClosesBy lends x ts x₁) → log_room ≤ length x.left → Closes (seconds_closed f) x.state ts x₁.state
  unfolding seconds_closed
  closes_any (ClosesBy.an-event {x} {x₁} {t} {ts} k f) h =
      let l = lent x.state (lends x) in
      let y = closes_any f (logs-room l (finish_outcome l) (rooms x h)) in
      Closes.an-event (lends x) (rooms x h) k (then-time t (lends x).second (seconds_closed f))
      (subst (λ z. Closes z (finish_leaves x.state (lends x)) ts x₁.state) (sym (then-later t (lends x).second (seconds_closed f))) y)
  closes_any (ClosesBy.is-done {x} k) h = Closes.is-done (lends x) (rooms x h) k

  pub any-whole : {c : Caller} {bytes log : List ℕ} {books : Held} {ps : List (List ℕ)} (w : WholeBy c lends bytes books log ps) → log_room ≤ length log
      → (Feeds c (seconds_by w) (start bytes books) ps w.before w.between.state) × (Closes (later_all w.before (seconds_by w)) w.between.state w.after w.end.state)
  any-whole w room =
      let f = feeds-any w.feeds room (seconds_closed w.closes) in
      let g = closes_any w.closes (feeds-room w.feeds room) in
      (f.0, subst (λ z. Closes z w.between.state w.after w.end.state) (sym f.1) g)

-- ---- what a lender may look at is all that was told

pub feeds-before : {c : Caller} {lends : Lender} {x x₁ : Point} {ps : List (List ℕ)} {ts : List Told} → FeedsBy c lends x ps ts x₁ → x₁.before ≡ x.before ++ ts
feeds-before (FeedsBy.no_more {x}) = sym (append-nil x.before)
feeds-before (FeedsBy.an-event {x} {t = t} {ts} k f) = feeds-before f ∙ append_assoc x.before (t ∷ []) ts
feeds-before (FeedsBy.all-used k f) = feeds-before f
feeds-before (FeedsBy.passed_over g f) = feeds-before f

pub closes_before : {lends : Lender} {x x₁ : Point} {ts : List Told} → ClosesBy lends x ts x₁ → x₁.before ≡ x.before ++ ts
closes_before (ClosesBy.an-event {x} {t = t} {ts} k f) = closes_before f ∙ append_assoc x.before (t ∷ []) ts
closes_before (ClosesBy.is-done {x} k) = sym (append-nil x.before)

-- ---- events one behind the other

pub told-append : (d : Held) (seconds : Seconds) (es fs : List Event) → told_all d seconds (es ++ fs) ≡ told_all d seconds es ++ told_all (books_all d seconds es) (later_on es seconds) fs
unfolding told_all books_all later_on
told-append d seconds [] fs = refl
told-append d seconds (e ∷ es) fs = ap (λ ts. told_of d (seconds 0) e ∷ ts) (told-append (books_after d (seconds 0) e) (later e seconds) es fs)

pub books-append : (d : Held) (seconds : Seconds) (es fs : List Event) → books_all d seconds (es ++ fs) ≡ books_all (books_all d seconds es) (later_on es seconds) fs
unfolding books_all later_on
books-append d seconds [] fs = refl
books-append d seconds (e ∷ es) fs = books-append (books_after d (seconds 0) e) (later e seconds) es fs

pub log-append : (ts us : List Told) → run_log (ts ++ us) ≡ run_log ts ++ run_log us
unfolding run_log
log-append [] us = refl
log-append (t ∷ ts) us = ap (λ l. entries_of t ++ l) (log-append ts us) ∙ sym (append_assoc (entries_of t) (run_log ts) (run_log us))
