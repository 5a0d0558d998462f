-- A call and a finish on a tray and a desk that are prepared, in plain values: they stay prepared, and each event told is one of those that are left to tell.
use Rattle.std.specs.Prelude.{Ok, Err, Some, None}
use mathlib.Core.Path.{◌≡◌, refl, sym, ap, ◌∙◌, subst}
use mathlib.Core.List.{List, []}
use mathlib.Core.Bool.{Bool, true, false, not}
use borrow.Author.Tests.{not-true, not-false}
use Prim.Native.Nat.{ℕ, ◌+◌, ◌-◌, ◌≤◌, ◌<◌, ◌^◌}
use native.Mathlib.Omega.{arith}
use lib.ListN.{length, take, drop, replicate, length-drop, length-append, length-replicate}
use lib.Seq.{take_all, drop-drop, length-take-le}
use Rattle.answer.specs.Pairs.{some-value}
use Rattle.runlog.specs.declared.Work.{Work}
use Rattle.stream.specs.declared.Tray.{Tray}
use Rattle.stream.specs.Scan.{Event}
use Rattle.stream.specs.Tray as stream
use Rattle.stream.specs.Driver as streaming
use Rattle.stream.specs.Driving.{left, call-event, finish-event}
use Rattle.stream.specs.Kept.{Good}
use Rattle.stream.specs.Steps.{call_kept, end_kept, finished-is}
use Rattle.stream.specs.Theorems.{call-sound, finish-sound, fresh-sound, zeros-clear, call-used}
use Rattle.desk.specs.declared.Desk.{Desk}
use Rattle.desk.specs.Results.{NewDesk}
use Rattle.desk.specs.Desk.{new_desk}
use Rattle.sizes.specs.Sizes.{longest_frame, book_bytes, log_room}
use Rattle.prepare.specs.declared.Answer.{Answer}
use Rattle.prepare.specs.Uncut.{told_of, entries_of}
use Rattle.prepare.specs.Prepare.{Handed, books_in, hands, answer_of, books_of, log_of, results, result_of, call_outcome, by_call, finish_outcome, by_finish}
use Rattle.prepare.specs.Driver.{State, Sound}
use Rattle.prepare.specs.Steps.{back, itself, Hears}
use Rattle.prepare.specs.Stays.{sound-after}
use Rattle.prepare.specs.Theorems as theorems
use Rattle.runlog.specs.declared.hearing.Heard.{Heard}
use Rattle.runlog.specs.declared.hearing.Turn.{Turn}
use Rattle.runlog.specs.Results.{Wanted}
use Rattle.runlog.specs.Results.{Job}
use Rattle.runlog.specs.Command.{job_by, job_of}
use Rattle.runlog.specs.Telling.{state_of, Told, Ended}
use Rattle.runlog.proofs.Telling as telling
use Rattle.runlog.proofs.Telling.{desk-same}
use Rattle.runlog.specs.Events.{is_event, Prepared, Hearing, Within, Step, IsNew, to_tell, last_to_tell, Called, Finished, Advanced, Neared}

-- ---- of any outcome: the desk is that of the books, which stay sound; the entries are in the log; and an event is one that the stream tells

module _ (handed : Handed) where
  stay : (o : stream.Outcome) → Sound handed.books → Sound (books_of handed o)
  stay (stream.refused r) s = s
  stay (stream.told e c n) s = sound-after s handed.second e
  stay (stream.hungry c n) s = s
  stay (stream.done c) s = s

  entries-in : (o : stream.Outcome) → (answer_of handed o).log ≤ length (log_of handed o)
  entries-in (stream.refused r) = omega arith
  entries-in (stream.told e c n) =
      let es = entries_of (told_of handed.books handed.second e) in
      rw (length-append es (drop (length es) handed.log)) (omega arith)
  entries-in (stream.hungry c n) = omega arith
  entries-in (stream.done c) = omega arith

  the-event : (o : stream.Outcome) → Good o → is_event (answer_of handed o).said ≡ true → (e : Event) × Hears handed.bytes handed.tray o e
  the-event (stream.refused r) g q = absurd g
  the-event (stream.told e c n) g q = (e, itself handed.bytes handed.tray e c n g)
  the-event (stream.hungry c n) g q = let z : ◌≡◌ {A = ℕ} 0 1 = cc in absurd (omega arith)
  the-event (stream.done c) g q = let z : ◌≡◌ {A = ℕ} 0 1 = cc in absurd (omega arith)

-- ---- a step of stream and desk, `o`, that is the stream's, `o'`, as a caller sees it

module _ (bytes live run log : List ℕ) (second : ℕ) (tray : Tray) (desk : Desk) (p : Prepared bytes tray desk live run log) (o o' : stream.Outcome) (q : o ≡ o')
    (bytes' live' run' log' : List ℕ) (a : Answer) (e : results a bytes' live' run' log' ≡ result_of (hands bytes tray desk live run log second) o) where
  abbrev handed : Handed
  handed = hands bytes tray desk live run log second

  the-answer : a ≡ answer_of handed o
  the-answer = ap (λ r. r.answer) e

  -- tray, bytes and the count used are the stream's
  along : (R : List ℕ → Tray → ℕ → Type 0) → R (stream.bytes_of bytes o') (stream.answer_of tray o').tray (stream.answer_of tray o').used
      → R bytes' a.tray a.used
  along R x =
      let eb : bytes' ≡ stream.bytes_of bytes o = ap (λ r. r.bytes) e in
      rw (the-answer, eb) (back handed o o' q (λ b t u d. R b t u) x)

  books-stay : Sound (books_in a.desk live' run')
  books-stay =
      let ed : a.desk ≡ (books_of handed o).desk = ap (λ x. x.desk) the-answer ∙ desk-same handed o in
      let el : live' ≡ (books_of handed o).live = ap (λ r. r.live) e in
      let er : run' ≡ (books_of handed o).run = ap (λ r. r.run) e in
      let x : books_in a.desk live' run' ≡ books_of handed o = λ i. books_in (ed i) (el i) (er i) in
      subst (λ d. Sound d) (sym x) (stay handed o p.books-sound)

  stays : streaming.Ready (stream.bytes_of bytes o') (stream.answer_of tray o').tray → length log' ≡ length log → Prepared bytes' a.tray a.desk live' run' log'
  stays r l = record { tray-ready = along (λ b t u. streaming.Ready b t) r; books-sound = books-stay; log-room = rw l p.log-room }

  entries_fit : a.log ≤ length log'
  entries_fit =
      let eg : log' ≡ log_of handed o = ap (λ r. r.log) e in
      rw (the-answer, eg) (entries-in handed o)

  event : Good o' → is_event a.said ≡ true → (e : Event) × Hears bytes tray o' e
  event g n = the-event handed o' g (rw (the-answer, q) at n)

-- ---- a call on the rest of a portion

module _ (bytes live run log portion : List ℕ) (second : ℕ) (tray : Tray) (desk : Desk) (used : ℕ)
    (h : Hearing bytes tray desk live run log used (length portion)) (bytes' live' run' log' : List ℕ) (a : Answer) where
  abbrev input : List ℕ
  input = take (length portion - used) (drop used portion)

  rest : input ≡ drop used portion
  rest = take_all (length portion - used) (drop used portion) (rw length-drop (omega arith))

  abbrev call-is : call_outcome (hands bytes tray desk live run log second) input ≡ stream.called bytes tray input
  call-is = telling.call-is bytes live run log second tray desk h.prepared input

  module _ (e : results a bytes' live' run' log' ≡ by_call (hands bytes tray desk live run log second) input) where
    abbrev of-call : (R : List ℕ → Tray → ℕ → Type 0)
        → R (stream.call_bytes bytes tray input) (stream.call_answer bytes tray input).tray (stream.call_answer bytes tray input).used
        → R bytes' a.tray a.used
    of-call = along bytes live run log second tray desk h.prepared _ _ call-is bytes' live' run' log' a e

    call-fewer : is_event a.said ≡ true → to_tell bytes' a.tray (used + a.used) portion < to_tell bytes tray used portion
    call-fewer n =
        let w = event bytes live run log second tray desk h.prepared _ _ call-is bytes' live' run' log' a e (call_kept bytes tray input h.prepared.tray-ready) n in
        let l = ap length (call-event h.prepared.tray-ready input w.0 w.1) in
        let x : length (left bytes' a.tray (drop a.used input)) < length (left bytes tray input)
        = of-call (λ b t u. length (left b t (drop u input)) < length (left bytes tray input)) (omega arith) in
        rw (← drop-drop a.used used portion) (rw rest at x)

    call-within : Within (used + a.used) (length portion)
    call-within =
        let u : a.used ≤ length input = of-call (λ b t u. u ≤ length input) (call-used bytes tray input) in
        let i = h.within.inside in
        record { inside = omega (arith, ap length rest, length-drop used portion); fits = h.within.fits }

    call_fits : a.log ≤ length log'
    call_fits = entries_fit bytes live run log second tray desk h.prepared _ _ call-is bytes' live' run' log' a e

    call_step : length log' ≡ length log
        → Step (to_tell bytes tray used portion) bytes' a.tray a.desk live' run' log' (is_event a.said)
        (to_tell bytes' a.tray (used + a.used) portion)
    call_step l = record {
      prepared =
          stays bytes live run log second tray desk h.prepared _ _ call-is bytes' live' run' log' a e
          (call-sound h.prepared.tray-ready input) l;
      fewer = call-fewer;
    }

    pub is-called : length log' ≡ length log → Called second bytes tray desk live run log portion used a bytes' live' run' log'
    is-called l = record { prepared = h.prepared; step = call_step l; entries_fit = call_fits; within = call-within; results-are = rw rest at e }

-- ---- a finish

module _ (bytes live run log : List ℕ) (second : ℕ) (tray : Tray) (desk : Desk) (p : Prepared bytes tray desk live run log)
    (bytes' live' run' log' : List ℕ) (a : Answer) where
  abbrev finish-is : finish_outcome (hands bytes tray desk live run log second) ≡ stream.finished bytes tray
  finish-is = telling.finish-is bytes live run log second tray desk p

  module _ (e : results a bytes' live' run' log' ≡ by_finish (hands bytes tray desk live run log second)) where
    finish-fewer : is_event a.said ≡ true → last_to_tell bytes' a.tray < last_to_tell bytes tray
    finish-fewer n =
        let w = event bytes live run log second tray desk p _ _ finish-is bytes' live' run' log' a e (end_kept bytes tray p.tray-ready) n in
        let l = ap length (finish-event p.tray-ready w.0 w.1) in
        along bytes live run log second tray desk p _ _ finish-is bytes' live' run' log' a e
        (λ b t u. length (left b t []) < length (left bytes tray [])) (omega arith)

    finish-fits : a.log ≤ length log'
    finish-fits = entries_fit bytes live run log second tray desk p _ _ finish-is bytes' live' run' log' a e

    finish-step : length log' ≡ length log
        → Step (last_to_tell bytes tray) bytes' a.tray a.desk live' run' log' (is_event a.said) (last_to_tell bytes' a.tray)
    finish-step l = record {
      prepared = stays bytes live run log second tray desk p _ _ finish-is bytes' live' run' log' a e (finish-sound p.tray-ready) l;
      fewer = finish-fewer;
    }

    none-used : a.used ≡ 0
    none-used = ap (λ r. r.answer.used) e ∙ ap (λ o. (answer_of (hands bytes tray desk live run log second) o).used) (finish-is ∙ finished-is bytes tray p.tray-ready)
        ∙ go (stream.close (stream.live (stream.contents bytes tray)) tray.noise)
      where
        go : (d : stream.Decision) → (answer_of (hands bytes tray desk live run log second) (stream.close_end d)).used ≡ 0
        go (stream.event e c) = refl
        go (stream.none held count) = refl

    pub is-finished : length log' ≡ length log → Finished second bytes tray desk live run log a bytes' live' run' log'
    is-finished l = record { prepared = p; used-fits = rw none-used (omega arith); step = finish-step l; entries_fit = finish-fits; results-are = e }

-- ---- an answer that is told

pub front : (n : ℕ) (s : List ℕ) → n ≤ length s → n ≡ length (take n s)
front n s h = sym (length-take-le n s h)

-- the bytes used of the whole portion
pub used-fits : (bytes live run log portion bytes' live' run' log' : List ℕ) (second : ℕ) (tray : Tray) (desk : Desk) (used : ℕ) (a : Answer)
    → Called second bytes tray desk live run log portion used a bytes' live' run' log' → used + a.used < 2 ^ 64
used-fits bytes live run log portion bytes' live' run' log' second tray desk used a c =
    let i = c.within.inside in
    let f = c.within.fits in
    omega arith

-- ---- from turn to turn something holds, and the buffers keep their lengths

pub record Turning (Holds : Type 0) (bytes₀ live₀ run₀ log₀ out₀ bytes live run log out : List ℕ) : Type 0 where
  pub holds : Holds
  pub same_bytes : length bytes ≡ length bytes₀
  pub same_live : length live ≡ length live₀
  pub same-run : length run ≡ length run₀
  pub same_log : length log ≡ length log₀
  pub same_out : length out ≡ length out₀

pub first-turn : {Holds : Type 0} (bytes live run log out : List ℕ) → Holds → Turning Holds bytes live run log out bytes live run log out
first-turn bytes live run log out h = record { holds = h; same_bytes = refl; same_live = refl; same-run = refl; same_log = refl; same_out = refl }

-- after a call, a finish or a read, which leave the buffers as long as they were
module _ (bytes₀ live₀ run₀ log₀ out₀ bytes live run log out bytes' live' run' log' out' : List ℕ) (Held : Type 0)
    (t : Turning Held bytes₀ live₀ run₀ log₀ out₀ bytes live run log out) (b : length bytes' ≡ length bytes) (l : length live' ≡ length live)
    (r : length run' ≡ length run) (g : length log' ≡ length log) (o : length out' ≡ length out) where
  pub next-turn : {Holds : Type 0} → Holds → Turning Holds bytes₀ live₀ run₀ log₀ out₀ bytes' live' run' log' out'
  next-turn h = record {
    holds = h;
    same_bytes = b ∙ t.same_bytes;
    same_live = l ∙ t.same_live;
    same-run = r ∙ t.same-run;
    same_log = g ∙ t.same_log;
    same_out = o ∙ t.same_out;
  }

-- what holds of a portion: what is still to be told of it from here is what was to be told at its start
pub record Heeding (raw : Bool) (second : ℕ) (start : State) (out₀ : List ℕ) (at₀ : ℕ) (portion bytes : List ℕ) (tray : Tray) (desk : Desk) (live run log out : List ℕ) (at used : ℕ) : Type 0 where
  pub hearing : Hearing bytes tray desk live run log used (length portion)
  pub goes : (s : State) (o : List ℕ) (a : ℕ) → Told raw second (state_of bytes tray desk live run) out at (drop used portion) s o a → Told raw second start out₀ at₀ portion s o a

-- and of the stream's end
pub record Nearing (raw : Bool) (second : ℕ) (start : State) (out₀ : List ℕ) (at₀ : ℕ) (bytes : List ℕ) (tray : Tray) (desk : Desk) (live run log out : List ℕ) (at : ℕ) : Type 0 where
  pub prepared : Prepared bytes tray desk live run log
  pub goes : (s : State) (o : List ℕ) (a : ℕ) → Ended raw second (state_of bytes tray desk live run) out at s o a → Ended raw second start out₀ at₀ s o a

module _ (raw : Bool) (second : ℕ) (start : State) (at₀ : ℕ) (portion bytes₀ live₀ run₀ log₀ out₀ bytes live run log out bytes' live' run' log' out' : List ℕ) (was next : Heard) where
  module _ (t : Turning (Heeding raw second start out₀ at₀ portion bytes was.tray was.desk live run log out was.at was.used) bytes₀ live₀ run₀ log₀ out₀ bytes live run log out)
      (o : Advanced raw second bytes was live run portion out bytes' next live' run' log' out') where
    pub portion-told : not next.more ≡ true → Told raw second start out₀ at₀ portion (state_of bytes' next.tray next.desk live' run') out' next.at
    portion-told n = t.holds.goes (state_of bytes' next.tray next.desk live' run') out' next.at (o.onward.stops (not-true next.more n))

    pub call-fewer-left : not next.more ≡ false → to_tell bytes' next.tray next.used portion < to_tell bytes was.tray was.used portion
    call-fewer-left n = o.step.fewer (not-false next.more n)

    pub after_call : not next.more ≡ false → length bytes' ≡ length bytes → length live' ≡ length live → length run' ≡ length run → length log' ≡ length log → length out' ≡ length out
        → Turning (Heeding raw second start out₀ at₀ portion bytes' next.tray next.desk live' run' log' out' next.at next.used) bytes₀ live₀ run₀ log₀ out₀ bytes' live' run' log' out'
    after_call n b l r g u =
        next-turn bytes₀ live₀ run₀ log₀ out₀ bytes live run log out bytes' live' run' log' out' _ t b l r g u (record {
          hearing = record { prepared = o.step.prepared; within = o.within };
          goes = λ s oo aa z. t.holds.goes s oo aa (o.onward.goes (not-false next.more n) s oo aa z);
        })

  module _ (t : Turning (Nearing raw second start out₀ at₀ bytes was.tray was.desk live run log out was.at) bytes₀ live₀ run₀ log₀ out₀ bytes live run log out)
      (o : Neared raw second bytes was live run out bytes' next live' run' log' out') where
    pub end-told : not next.more ≡ true → Ended raw second start out₀ at₀ (state_of bytes' next.tray next.desk live' run') out' next.at
    end-told n = t.holds.goes (state_of bytes' next.tray next.desk live' run') out' next.at (o.nearer.stops (not-true next.more n))

    pub finish-fewer-left : not next.more ≡ false → last_to_tell bytes' next.tray < last_to_tell bytes was.tray
    finish-fewer-left n = o.step.fewer (not-false next.more n)

    pub after_finish : not next.more ≡ false → length bytes' ≡ length bytes → length live' ≡ length live → length run' ≡ length run → length log' ≡ length log → length out' ≡ length out
        → Turning (Nearing raw second start out₀ at₀ bytes' next.tray next.desk live' run' log' out' next.at) bytes₀ live₀ run₀ log₀ out₀ bytes' live' run' log' out'
    after_finish n b l r g u =
        next-turn bytes₀ live₀ run₀ log₀ out₀ bytes live run log out bytes' live' run' log' out' _ t b l r g u (record {
          prepared = o.step.prepared;
          goes = λ s oo aa z. t.holds.goes s oo aa (o.nearer.goes (not-false next.more n) s oo aa z);
        })

-- ---- the start of a portion, and of the stream's end

module _ (raw : Bool) (second : ℕ) (bytes live run log out : List ℕ) (turn : Turn) (r : Heard) (e : r ≡ record { tray = turn.tray; desk = turn.desk; used = 0; at = 0; more = true }) where
  started : Prepared bytes turn.tray turn.desk live run log → Prepared bytes r.tray r.desk live run log
  started p = rw e p

  pub first-heeding : (portion : List ℕ) → length portion < 2 ^ 64 → Prepared bytes turn.tray turn.desk live run log
      → Heeding raw second (state_of bytes r.tray r.desk live run) out r.at portion bytes r.tray r.desk live run log out r.at r.used
  first-heeding portion w p = record {
    hearing = record { prepared = started p; within = record { inside = rw e (omega arith); fits = w } };
    goes = λ s o a z.
        subst (λ (u : ℕ). Told raw second (state_of bytes r.tray r.desk live run) out r.at (drop u portion) s o a) (ap (λ h. h.used) e) z;
  }

  pub first-nearing : Prepared bytes turn.tray turn.desk live run log
      → Nearing raw second (state_of bytes r.tray r.desk live run) out r.at bytes r.tray r.desk live run log out r.at
  first-nearing p = record { prepared = started p; goes = λ s o a z. z }

module _ (raw : Bool) (second : ℕ) (bytes live run out : List ℕ) (turn : Turn) (r : Heard) (e : r ≡ record { tray = turn.tray; desk = turn.desk; used = 0; at = 0; more = true })
    (s : State) (o : List ℕ) (a : ℕ) where
  pub from_start : (portion : List ℕ) → Told raw second (state_of bytes r.tray r.desk live run) out r.at portion s o a
      → Told raw second (state_of bytes turn.tray turn.desk live run) out 0 portion s o a
  from_start portion z = rw e at z

  pub end-from-start : Ended raw second (state_of bytes r.tray r.desk live run) out r.at s o a → Ended raw second (state_of bytes turn.tray turn.desk live run) out 0 s o a
  end-from-start z = rw e at z

-- ---- a new desk, with the buffers that the program lends

pub is-new : (wanted : Wanted) (job : Job) (desk : Desk) (raw : Bool) → job ≡ job_of wanted → job ≡ Some (record { desk = desk; raw = raw }) → IsNew desk
is-new (Some r₀) job desk raw e q = go (new_desk r₀.solution r₀.processor r₀.constellation) refl (sym e ∙ q)
  where
    go : (made : NewDesk) → new_desk r₀.solution r₀.processor r₀.constellation ≡ made → job_by made r₀.raw ≡ Some (record { desk = desk; raw = raw }) → IsNew desk
    go (Ok d) p k =
        let same : d ≡ desk = ap (λ (x : Work). x.desk) (some-value k) in
        record { solution = r₀.solution; processor = r₀.processor; constellation = r₀.constellation; is_made = p ∙ ap (λ x. Ok x) same }
    go (Err why) p k = let y : ◌≡◌ {A = ℕ} 0 1 = cc in absurd (omega arith)
is-new None job desk raw e q = let k : None ≡ Some (record { desk = desk; raw = raw }) = sym e ∙ q in let y : ◌≡◌ {A = ℕ} 0 1 = cc in absurd (omega arith)

pub new-prepared : (desk : Desk) (log : List ℕ) → IsNew desk → log_room ≡ length log
    → Prepared (replicate longest_frame 0) stream.fresh_tray desk (replicate book_bytes 0) (replicate book_bytes 0) log
new-prepared desk log n h =
    let room : book_bytes ≤ length (replicate {A = ℕ} book_bytes 0) = omega (arith, length-replicate {A = ℕ} book_bytes 0) in
    record {
      tray-ready = fresh-sound (zeros-clear longest_frame (omega arith));
      books-sound =
          theorems.fresh-sound n.solution n.processor n.constellation desk n.is_made (replicate book_bytes 0) (replicate book_bytes 0) room room;
      log-room = omega arith;
    }
