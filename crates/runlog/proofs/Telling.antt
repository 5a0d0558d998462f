-- What a call or a finish tells, in plain values: an event is one that is told, with its entries first in the log; else the stream is hungry, or done.
use mathlib.Core.Path.{◌≡◌, refl, sym, ap, ◌∙◌, subst}
use mathlib.Core.Bool.{Bool, true, false}
use mathlib.Core.List.{List, [], ◌∷◌, ◌++◌}
use Prim.Native.Nat.{ℕ, ◌+◌, ◌≤◌}
use native.Mathlib.Omega.{arith}
use lib.ListN.{length, take, drop}
use lib.Seq.{drop-drop, length-take-le}
use Rattle.text.specs.Text.{waiting, say_all, waiting_after, said_after}
use Rattle.text.specs.Output.{say-then}
use Rattle.words.specs.Log.{whole_in, whole_of, texts_of_log}
use Rattle.frame.specs.declared.Frame.{Frame}
use Rattle.stream.specs.declared.Tray.{Tray}
use Rattle.stream.specs.Scan.{Event, frame, noise, scan_from}
use Rattle.stream.specs.Tray as stream
use Rattle.stream.specs.Driver.{waits}
use Rattle.stream.specs.Machine as machine
use Rattle.stream.specs.Machine.{Fed, on_list, scan-reading}
use Rattle.stream.specs.Steps.{call-fed, end-ended}
use Rattle.stream.specs.Steps as steps
use Rattle.desk.specs.Take as desk
use Rattle.desk.specs.declared.Desk.{Desk}
use Rattle.desk.specs.History.{Held}
use Rattle.prepare.specs.declared.Answer.{Answer}
use Rattle.prepare.specs.declared.Said.{Said}
use Rattle.prepare.specs.declared.Said.TheVariants as said
use Rattle.prepare.specs.Uncut as uncut
use Rattle.prepare.specs.Uncut.{told_of, told_by, verdict_on, handled_on, entries_of}
use Rattle.prepare.specs.Prepare.{Handed, Result, hands, said_of, answer_of, books_of, log_of, results, result_of, call_outcome, by_call, finish_outcome, by_finish}
use Rattle.prepare.specs.Driver.{State, Tells, later_by, Feeds, Closes}
use Rattle.prepare.specs.Steps.{guarded-is}
use Rattle.runlog.specs.declared.hearing.Heard.{Heard}
use Rattle.runlog.specs.Events.{is_event, heard_of, Prepared, Step, Within, to_tell, last_to_tell, Called, Finished, Spoken, Onward, Nearer, Advanced, Neared}
use Rattle.runlog.specs.Telling.{state_of, some, texts_for, logs_of, always, Told, Ended}
use Rattle.runlog.specs.Joined.{later-always, always-time}

-- ---- entries are written for a frame that is taken, and for nothing else

abbrev Silent : Said → ℕ → Type 0
Silent (said.Accepted header) n = Unit {0}
Silent (said.FrameRefused header why) n = n ≡ 0
Silent (said.Noise count) n = n ≡ 0
Silent said.Hungry n = n ≡ 0
Silent said.Done n = n ≡ 0
Silent (said.Refused why) n = n ≡ 0

silent-by : (books : Held) (f : Frame) (b : List ℕ) (v : desk.Verdict) → Silent (said_of (told_by books f b v)) (length (entries_of (told_by books f b v)))
silent-by books f b (desk.refused why) = refl
silent-by books f b (desk.defines book live) = tt
silent-by books f b (desk.continues book message) = tt
silent-by books f b (desk.opens tag message) = tt

silent-so : (handed : Handed) (o : stream.Outcome) → Silent (answer_of handed o).said (answer_of handed o).log
silent-so handed (stream.refused r) = refl
silent-so handed (stream.told (frame f b) c n) = silent-by (handled_on handed.books handed.second b) f b (verdict_on handed.books handed.second b)
silent-so handed (stream.told (noise k) c n) = refl
silent-so handed (stream.hungry c n) = refl
silent-so handed (stream.done c) = refl

front-none : (n : ℕ) (log : List ℕ) → n ≡ 0 → [] ≡ take n log
front-none n log e = rw e

tellable : (s : Said) (n : ℕ) (bytes log : List ℕ) → is_event s ≡ true → Silent s n → (t : uncut.Told) × Tells s n bytes log t × (entries_of t ≡ take n log)
tellable (said.Accepted header) n bytes log q z = (uncut.accepted header (take header.length bytes) (take n log), refl, refl)
tellable (said.FrameRefused header why) n bytes log q z = (uncut.refused header (take header.length bytes) why, refl, front-none n log z)
tellable (said.Noise count) n bytes log q z = (uncut.noise count, refl, front-none n log z)
tellable said.Hungry n bytes log q z = let y : ◌≡◌ {A = ℕ} 0 1 = cc in absurd (omega arith)
tellable said.Done n bytes log q z = let y : ◌≡◌ {A = ℕ} 0 1 = cc in absurd (omega arith)
tellable (said.Refused why) n bytes log q z = let y : ◌≡◌ {A = ℕ} 0 1 = cc in absurd (omega arith)

-- ---- what is said one behind the other

-- of no entries nothing is said
none_said : (raw : Bool) → texts_for raw [] ≡ []
unfolding texts_of_log whole_of whole_in
none_said true = refl
none_said false = refl

-- ---- an event, and what is none

event-by : (books : Held) (f : Frame) (b : List ℕ) (v : desk.Verdict) → is_event (said_of (told_by books f b v)) ≡ false → ⊥
event-by books f b (desk.refused why) q = let y : ◌≡◌ {A = ℕ} 0 1 = cc in omega arith
event-by books f b (desk.defines book live) q = let y : ◌≡◌ {A = ℕ} 0 1 = cc in omega arith
event-by books f b (desk.continues book message) q = let y : ◌≡◌ {A = ℕ} 0 1 = cc in omega arith
event-by books f b (desk.opens tag message) q = let y : ◌≡◌ {A = ℕ} 0 1 = cc in omega arith

an-event : (books : Held) (second : ℕ) (e : Event) → is_event (said_of (told_of books second e)) ≡ false → ⊥
an-event books second (frame f b) q = event-by (handled_on books second b) f b (verdict_on books second b) q
an-event books second (noise k) q = let y : ◌≡◌ {A = ℕ} 0 1 = cc in omega arith

pub desk-same : (handed : Handed) (o : stream.Outcome) → (answer_of handed o).desk ≡ (books_of handed o).desk
desk-same handed (stream.refused r) = refl
desk-same handed (stream.told e c n) = refl
desk-same handed (stream.hungry c n) = refl
desk-same handed (stream.done c) = refl

quiet : (s : Said) (n : ℕ) → is_event s ≡ false → Silent s n → n ≡ 0
quiet (said.Accepted header) n q z = let y : ◌≡◌ {A = ℕ} 0 1 = cc in absurd (omega arith)
quiet (said.FrameRefused header why) n q z = z
quiet (said.Noise count) n q z = z
quiet said.Hungry n q z = z
quiet said.Done n q z = z
quiet (said.Refused why) n q z = z

hungry-so : (handed : Handed) (p : List ℕ) (G : List ℕ → List Event) (o : stream.Outcome) → Fed on_list (λ k s. scan_from s 0 k) G p o
    → is_event (answer_of handed o).said ≡ false → (answer_of handed o).said ≡ said.Hungry
hungry-so handed p G (stream.refused r) f q = absurd f
hungry-so handed p G (stream.told e c n) f q = absurd (an-event handed.books handed.second e q)
hungry-so handed p G (stream.hungry c n) f q = refl
hungry-so handed p G (stream.done c) f q = absurd f

done-so : (handed : Handed) (g : List Event) (o : stream.Outcome) → machine.Ended g o → is_event (answer_of handed o).said ≡ false → (answer_of handed o).said ≡ said.Done
done-so handed g (stream.refused r) f q = absurd f
done-so handed g (stream.told e c n) f q = absurd (an-event handed.books handed.second e q)
done-so handed g (stream.hungry c n) f q = absurd f
done-so handed g (stream.done c) f q = refl

-- ---- any step, with what it leaves to a caller

module _ (handed : Handed) (o : stream.Outcome) (a : Answer) (bytes' live' run' log' : List ℕ) (e : results a bytes' live' run' log' ≡ result_of handed o) where
  silent : Silent a.said a.log
  silent = subst (λ (r : Result). Silent r.answer.said r.answer.log) (sym e) (silent-so handed o)

  -- what holds of the state that the step leaves, and of the count used, holds of what the caller has
  onto : (R : State → ℕ → Type 0) → R (state_of bytes' a.tray a.desk live' run') a.used
      → R (record { bytes = stream.bytes_of handed.bytes o; tray = (answer_of handed o).tray; books = books_of handed o }) (answer_of handed o).used
  onto R x =
      let f = subst (λ (r : Result). R (state_of r.bytes r.answer.tray r.answer.desk r.live r.run) r.answer.used) e x in
      subst (λ (d : Desk). R (state_of (stream.bytes_of handed.bytes o) (answer_of handed o).tray d (books_of handed o).live (books_of handed o).run) (answer_of handed o).used)
      (desk-same handed o) f

  back : (R : State → Type 0) → R (record { bytes = stream.bytes_of handed.bytes o; tray = (answer_of handed o).tray; books = books_of handed o })
      → R (state_of bytes' a.tray a.desk live' run')
  back R x =
      let f = subst (λ (d : Desk). R (state_of (stream.bytes_of handed.bytes o) (answer_of handed o).tray d (books_of handed o).live (books_of handed o).run))
      (sym (desk-same handed o)) x in
      subst (λ (r : Result). R (state_of r.bytes r.answer.tray r.answer.desk r.live r.run)) (sym e) f

  module _ (n : is_event a.said ≡ true) where
    abbrev event : (t : uncut.Told) × Tells a.said a.log bytes' log' t × (entries_of t ≡ take a.log log')
    event = tellable a.said a.log bytes' log' n silent

    tells : Tells (answer_of handed o).said (answer_of handed o).log (stream.bytes_of handed.bytes o) (log_of handed o) event.0
    tells = subst (λ (r : Result). Tells r.answer.said r.answer.log r.bytes r.log event.0) e event.1

    -- its entries are said, and others behind them
    says_on : (raw : Bool) (out out' oo : List ℕ) (at at' aa : ℕ) (rest : List uncut.Told) → waiting out' at' ≡ say_all (waiting out at) (texts_for raw (take a.log log'))
        → waiting oo aa ≡ say_all (waiting out' at') (logs_of raw rest) → waiting oo aa ≡ say_all (waiting out at) (logs_of raw (event.0 ∷ rest))
    unfolding logs_of
    says_on raw out out' oo at at' aa rest p q =
        say-then (waiting out at) (texts_for raw (entries_of event.0)) (logs_of raw rest) (p ∙ ap (λ l. say_all (waiting out at) (texts_for raw l)) (sym event.2)) q

  -- nothing is said
  says_none : (raw : Bool) (n : is_event a.said ≡ false) (out out' : List ℕ) (at at' : ℕ) → waiting out' at' ≡ say_all (waiting out at) (texts_for raw (take a.log log'))
      → waiting out' at' ≡ say_all (waiting out at) (logs_of raw [])
  unfolding logs_of
  says_none raw n out out' at at' p =
      p ∙ ap (λ (k : ℕ). say_all (waiting out at) (texts_for raw (take k log'))) (quiet a.said a.log n silent) ∙ ap (say_all (waiting out at)) (none_said raw)

-- ---- past ROOM and STATE a call and a finish are the stream's

module _ (bytes live run log : List ℕ) (second : ℕ) (tray : Tray) (desk : Desk) (p : Prepared bytes tray desk live run log) where
  pub call-is : (input : List ℕ) → call_outcome (hands bytes tray desk live run log second) input ≡ stream.called bytes tray input
  unfolding call_outcome
  call-is input = guarded-is (hands bytes tray desk live run log second) (stream.called bytes tray input) p.tray-ready p.books-sound p.log-room

  pub finish-is : finish_outcome (hands bytes tray desk live run log second) ≡ stream.finished bytes tray
  unfolding finish_outcome
  finish-is = guarded-is (hands bytes tray desk live run log second) (stream.finished bytes tray) p.tray-ready p.books-sound p.log-room

-- ---- a call, told

module _ (raw : Bool) (second : ℕ) (bytes live run log input : List ℕ) (tray : Tray) (desk : Desk) (p : Prepared bytes tray desk live run log)
    (bytes' live' run' log' : List ℕ) (a : Answer) (e : results a bytes' live' run' log' ≡ by_call (hands bytes tray desk live run log second) input)
    (out out' : List ℕ) (at at' : ℕ) (w : waiting out' at' ≡ say_all (waiting out at) (texts_for raw (take a.log log'))) where
  abbrev lent : Handed
  lent = hands bytes tray desk live run log second

  call-goes : is_event a.said ≡ true → (s : State) (oo : List ℕ) (aa : ℕ) → Told raw second (state_of bytes' a.tray a.desk live' run') out' at' (drop a.used input) s oo aa
      → Told raw second (state_of bytes tray desk live run) out at input s oo aa
  call-goes n s oo aa z = record {
    told = (event lent (call_outcome lent input) a bytes' live' run' log' e n).0 ∷ z.told;
    feeds =
        let t = (event lent (call_outcome lent input) a bytes' live' run' log' e n).0 in
        Feeds.an-event (record { log = log; second = second }) p.log-room (tells lent (call_outcome lent input) a bytes' live' run' log' e n) (always-time t second)
        (onto lent (call_outcome lent input) a bytes' live' run' log' e (λ s₁ u. Feeds waits (later_by t (always second)) s₁ (drop u input ∷ []) z.told s)
        (subst (λ n. Feeds waits n (state_of bytes' a.tray a.desk live' run') (drop a.used input ∷ []) z.told s) (sym (later-always t second)) z.feeds));
    says = says_on lent (call_outcome lent input) a bytes' live' run' log' e n raw out out' oo at at' aa z.told w z.says;
  }

  call-stops : is_event a.said ≡ false → Told raw second (state_of bytes tray desk live run) out at input (state_of bytes' a.tray a.desk live' run') out' at'
  call-stops n =
      let i : call_outcome lent input ≡ stream.called bytes tray input = call-is bytes live run log second tray desk p input in
      let f = subst (λ o. Fed on_list (λ k s. scan_from s 0 k) (λ x. scan_from (steps.live_of bytes tray ++ (input ++ x)) 0 tray.noise) input o) (sym i)
      (call-fed on_list (λ k s. scan_from s 0 k) scan-reading bytes tray input p.tray-ready) in
      let q : is_event (answer_of lent (call_outcome lent input)).said ≡ false = subst (λ (r : Result). is_event r.answer.said ≡ false) e n in
      let h = hungry-so lent input _ (call_outcome lent input) f q in
      record {
        told = [];
        feeds =
            back lent (call_outcome lent input) a bytes' live' run' log' e (λ s₁. Feeds waits (always second) (state_of bytes tray desk live run) (input ∷ []) [] s₁)
            (Feeds.all-used (record { log = log; second = second }) p.log-room h Feeds.no_more);
        says = says_none lent (call_outcome lent input) a bytes' live' run' log' e raw n out out' at at' w;
      }

-- ---- a finish, told

module _ (raw : Bool) (second : ℕ) (bytes live run log : List ℕ) (tray : Tray) (desk : Desk) (p : Prepared bytes tray desk live run log)
    (bytes' live' run' log' : List ℕ) (a : Answer) (e : results a bytes' live' run' log' ≡ by_finish (hands bytes tray desk live run log second))
    (out out' : List ℕ) (at at' : ℕ) (w : waiting out' at' ≡ say_all (waiting out at) (texts_for raw (take a.log log'))) where
  abbrev lent' : Handed
  lent' = hands bytes tray desk live run log second

  finish-goes : is_event a.said ≡ true → (s : State) (oo : List ℕ) (aa : ℕ) → Ended raw second (state_of bytes' a.tray a.desk live' run') out' at' s oo aa
      → Ended raw second (state_of bytes tray desk live run) out at s oo aa
  finish-goes n s oo aa z = record {
    told = (event lent' (finish_outcome lent') a bytes' live' run' log' e n).0 ∷ z.told;
    closes =
        let t = (event lent' (finish_outcome lent') a bytes' live' run' log' e n).0 in
        Closes.an-event (record { log = log; second = second }) p.log-room (tells lent' (finish_outcome lent') a bytes' live' run' log' e n) (always-time t second)
        (onto lent' (finish_outcome lent') a bytes' live' run' log' e (λ s₁ u. Closes (later_by t (always second)) s₁ z.told s)
        (subst (λ n. Closes n (state_of bytes' a.tray a.desk live' run') z.told s) (sym (later-always t second)) z.closes));
    says = says_on lent' (finish_outcome lent') a bytes' live' run' log' e n raw out out' oo at at' aa z.told w z.says;
  }

  finish-stops : is_event a.said ≡ false → Ended raw second (state_of bytes tray desk live run) out at (state_of bytes' a.tray a.desk live' run') out' at'
  finish-stops n =
      let i : finish_outcome lent' ≡ stream.finished bytes tray = finish-is bytes live run log second tray desk p in
      let f = subst (λ o. machine.Ended (scan_from (steps.live_of bytes tray) 0 tray.noise) o) (sym i) (end-ended bytes tray p.tray-ready) in
      let q : is_event (answer_of lent' (finish_outcome lent')).said ≡ false = subst (λ (r : Result). is_event r.answer.said ≡ false) e n in
      let h = done-so lent' _ (finish_outcome lent') f q in
      record {
        told = [];
        closes =
            back lent' (finish_outcome lent') a bytes' live' run' log' e (λ s₁. Closes (always second) (state_of bytes tray desk live run) [] s₁) (Closes.is-done (record { log = log; second = second }) p.log-room h);
        says = says_none lent' (finish_outcome lent') a bytes' live' run' log' e raw n out out' at at' w;
      }

-- ---- what is answered, as the preparing stands then

module _ (raw : Bool) (second : ℕ) (bytes live run log portion : List ℕ) (was : Heard)
    (bytes' live' run' log' : List ℕ) (a : Answer) (e : Called second bytes was.tray was.desk live run log portion was.used a bytes' live' run' log')
    (out out' : List ℕ) (heard : Heard) (k : Spoken was.used a log' raw out was.at out' heard) where
  onward : (at' : ℕ) (x : Heard) → x ≡ heard_of was.used a at' → waiting out' at' ≡ say_all (waiting out was.at) (texts_for raw (take a.log log'))
      → Onward raw second (state_of bytes was.tray was.desk live run) out was.at (drop was.used portion) (state_of bytes' x.tray x.desk live' run') out' at'
      (drop x.used portion) x.more
  onward at' x t w =
      rw t (record {
        goes = λ n s oo aa z. call-goes raw second bytes live run log (drop was.used portion) was.tray was.desk e.prepared bytes' live' run' log' a e.results-are
            out out' was.at at' w n s oo aa (rw (drop-drop a.used was.used portion) z);
        stops = call-stops raw second bytes live run log (drop was.used portion) was.tray was.desk e.prepared bytes' live' run' log' a e.results-are out out' was.at at' w;
      })

  stepped : (at' : ℕ) (x : Heard) → x ≡ heard_of was.used a at'
      → (Step (to_tell bytes was.tray was.used portion) bytes' x.tray x.desk live' run' log' x.more (to_tell bytes' x.tray x.used portion))
      × (Within x.used (length portion))
  stepped at' x t = rw t (e.step, e.within)

  pub call-advanced : Advanced raw second bytes was live run portion out bytes' heard live' run' log' out'
  call-advanced =
      let s = stepped heard.at heard k.heard-is in
      record { step = s.0; within = s.1; onward = onward heard.at heard k.heard-is k.says }

module _ (raw : Bool) (second : ℕ) (bytes live run log : List ℕ) (was : Heard)
    (bytes' live' run' log' : List ℕ) (a : Answer) (e : Finished second bytes was.tray was.desk live run log a bytes' live' run' log')
    (out out' : List ℕ) (heard : Heard) (k : Spoken 0 a log' raw out was.at out' heard) where
  nearer : (at' : ℕ) (x : Heard) → x ≡ heard_of 0 a at' → waiting out' at' ≡ say_all (waiting out was.at) (texts_for raw (take a.log log'))
      → Nearer raw second (state_of bytes was.tray was.desk live run) out was.at (state_of bytes' x.tray x.desk live' run') out' at' x.more
  nearer at' x t w =
      rw t (record {
        goes = finish-goes raw second bytes live run log was.tray was.desk e.prepared bytes' live' run' log' a e.results-are out out' was.at at' w;
        stops = finish-stops raw second bytes live run log was.tray was.desk e.prepared bytes' live' run' log' a e.results-are out out' was.at at' w;
      })

  stepped-last : (at' : ℕ) (x : Heard) → x ≡ heard_of 0 a at' → Step (last_to_tell bytes was.tray) bytes' x.tray x.desk live' run' log' x.more (last_to_tell bytes' x.tray)
  stepped-last at' x t = rw t e.step

  pub finish-neared : Neared raw second bytes was live run out bytes' heard live' run' log' out'
  finish-neared = record { step = stepped-last heard.at heard k.heard-is; nearer = nearer heard.at heard k.heard-is k.says }

pub spoken-is : (used : ℕ) (a : Answer) (log : List ℕ) (raw : Bool) (out out' : List ℕ) (at at' : ℕ) (more : Bool) → more ≡ is_event a.said
    → waiting out' at' ≡ say_all (waiting out at) (texts_for raw (take a.log log))
    → Spoken used a log raw out at out' (record { tray = a.tray; desk = a.desk; used = used + a.used; at = at'; more = more })
spoken-is used a log raw out out' at at' more e w = record { heard-is = rw e; says = w }

-- ---- the entries said

module _ (raw : Bool) (out log : List ℕ) (at n : ℕ) where
  pub nothing_said : n ≡ 0 → waiting out at ≡ say_all (waiting out at) (texts_for raw (take n log))
  unfolding say_all
  nothing_said z = sym (ap (λ (k : ℕ). say_all (waiting out at) (texts_for raw (take k log))) z ∙ ap (say_all (waiting out at)) (none_said raw))

  pub entries-said : (out' : List ℕ) (r : ℕ) → (n ≡ 0 → ⊥) → n ≤ length log → raw ≡ true → r ≡ waiting_after out at (take n log) → out' ≡ said_after out at (take n log)
      → waiting out' r ≡ say_all (waiting out at) (texts_for raw (take n log))
  unfolding say_all
  entries-said out' r z l t p q = rw t (go (take n log) (length-take-le n log l) p q)
    where
      go : (t : List ℕ) → length t ≡ n → r ≡ waiting_after out at t → out' ≡ said_after out at t → waiting out' r ≡ say_all (waiting out at) (some t)
      go [] y p q = absurd (z (sym y))
      go (x ∷ xs) y p q = rw (q, p)

  pub lines-said : (out' : List ℕ) (r : ℕ) → raw ≡ false → waiting out' r ≡ say_all (waiting out at) (texts_of_log (take n log)) → waiting out' r ≡ say_all (waiting out at) (texts_for raw (take n log))
  lines-said out' r f p = rw f p
