-- Serves proofs: the calls of `prepare` for other languages end, whoever lends and whoever cuts, and such calls are calls of Driver.antt. Proved; assumes nothing.
use Rattle.std.specs.Prelude.{◌≡◌, refl, ◌⊎◌, false, ℕ, zero, suc, ◌+◌, ◌*◌, ◌≤◌, ◌<◌, length, drop}
use Rattle.std.proofs.Common.{sym, ap₂, ◌∙◌, inl, inr, ⊎_elim, arith, length-drop, take-append-drop}
use Rattle.std.proofs.Math.Path.{ap, subst}
use mathlib.Core.List.{List, [], ◌∷◌, ◌++◌, append_assoc, append-nil}
use Rattle.std.proofs.Math.ListN.{take}
use Rattle.std.proofs.Math.Seq.{drop-append_seam}
use Rattle.std.proofs.lemmas.List.{drop-append-le}
use Rattle.stream.specs.declared.Tray.{Tray}
use Rattle.stream.specs.Scan.{Event, scan_from}
use Rattle.stream.specs.Tray.{Outcome, hungry, decide, feed, fresh_tray}
use Rattle.stream.specs.Tray as stream
use Rattle.stream.specs.Driver.{Caller, waits, hurries}
use Rattle.stream.specs.Driving.{left, finish-event}
use Rattle.stream.specs.Machine.{Fed, on_list, scan-reading}
use Rattle.stream.specs.Kept.{Good}
use Rattle.stream.specs.Steps.{live_of, called_is, call_kept, end_kept, call-fed, end-ended, event-step, hungry-step, call-says, end-says}
use Rattle.prepare.specs.Uncut as uncut
use Rattle.prepare.specs.Uncut.{Seconds}
use Rattle.prepare.specs.Prepare.{answer_of, call_outcome, finish_outcome}
use Rattle.prepare.specs.Steps.{guarded-is, back, tells-so, hungry-is, done-is}
use Rattle.export.specs.Numbers.{laid}
use Rattle.export.specs.Streams.{tray_in}
use Rattle.export.specs.Back.{tray-back}
use Rattle.exportprepare.specs.Prepares.{Lent, handed_in, lacks_room, event_of, told_said, told_answer, state_said, call_leaves, finish_leaves}
use Rattle.exportprepare.specs.NextState.{next-call, next-finish}
use Rattle.exportprepare.specs.Driver.{Heard, frame, noise, event_in, used_in, Hears, a-frame, some-noise, InTime, later_by, later_all, Feeds, FeedsStream, Closes, heard_of}
use Rattle.exportprepare.specs.Lender.{Point, point, Lender, LendsRoom, HasRoom, Cutter, GivesMore, MayStop, lent_at, called, finished, FeedsBy, FeedsStreamBy, ClosesBy, heard_then, seconds_fed, seconds_streamed, seconds_closed}
use Rattle.exportprepare.specs.Driving.{left_by, there-room, call-left, finish-left, says-hears, said-hungry, said-done}
use Rattle.exportprepare.specs.Cutting.{all-of-it, on-used}
use Rattle.exportprepare.specs.Along.{Fit, fit-anew, call-fit, finish-fit, call-is-zero, finish-is-zero}

-- ---- what is left to tell of what is lent and the bytes to come: an event is the first of it, and hungry leaves as much

abbrev to_tell : Lent → (rest : List ℕ) → List Event
to_tell l rest = left l.bytes (tray_in l.tray) rest

data CallSteps (l : Lent) (p : List ℕ) : Type 0 where
  an-event : (h : Heard) → Hears (call_leaves l p) h
      → ((more : List ℕ) → length (to_tell l (p ++ more)) ≡ suc (length (to_tell (call_leaves l p) (drop (used_in (call_leaves l p)) p ++ more))))
      → CallSteps l p
  all-used : event_in (call_leaves l p) ≡ 0 → ((more : List ℕ) → length (to_tell l (p ++ more)) ≡ length (to_tell (call_leaves l p) more)) → CallSteps l p

data FinishSteps (l : Lent) : Type 0 where
  an-event : (h : Heard) → Hears (finish_leaves l) h → length (to_tell l []) ≡ suc (length (to_tell (finish_leaves l) [])) → FinishSteps l
  is-done : event_in (finish_leaves l) ≡ 3 → FinishSteps l

module _ (l : Lent) (f : Fit l) where
  abbrev room : lacks_room l.tray l.desk l.told l.header ≡ false
  room = there-room l f.there

  abbrev tray : Tray
  tray = tray_in l.tray

  module _ (p : List ℕ) where
    abbrev o : Outcome
    o = call_outcome (handed_in l) p

    abbrev o' : Outcome
    o' = stream.called l.bytes tray p

    the-stream's : o ≡ o'
    unfolding call_outcome
    the-stream's = guarded-is (handed_in l) o' f.ready.tray-ready f.ready.books-sound f.log-room

    good : Good o'
    good = call_kept l.bytes tray p f.ready.tray-ready

    fed : Fed on_list (λ k s. scan_from s 0 k) (λ more. left l.bytes tray (p ++ more)) p o'
    fed = call-fed on_list (λ k s. scan_from s 0 k) scan-reading l.bytes tray p f.ready.tray-ready

    next : (R : List ℕ → Tray → ℕ → Type 0) → R (stream.bytes_of l.bytes o') (stream.answer_of tray o').tray (stream.answer_of tray o').used
        → R (call_leaves l p).bytes (tray_in (call_leaves l p).tray) (answer_of (handed_in l) o).used
    next R x =
        subst (λ s. R s.bytes s.tray (answer_of (handed_in l) o).used) (sym (next-call l room p)) (back (handed_in l) o o' the-stream's (λ b t u d. R b t u) x)

    call-steps : CallSteps l p
    call-steps =
        ⊎_elim
        (λ w.
        let e = w.0 in
        let t = uncut.told_of (handed_in l).books l.second e in
        let s = says-hears l o t (tells-so (handed_in l) o o' the-stream's good e w.1).0 in
        let u : used_in (call_leaves l p) ≡ (answer_of (handed_in l) o).used = ap (λ x. used_in x) (call-left l room p) ∙ s.2 in
        an-event (heard_of t) (subst (λ x. Hears x (heard_of t)) (sym (call-left l room p)) s.1)
        (λ more.
        subst (λ n. length (to_tell l (p ++ more)) ≡ suc (length (to_tell (call_leaves l p) (drop n p ++ more)))) (sym u)
        (next (λ b t n. length (to_tell l (p ++ more)) ≡ suc (length (left b t (drop n p ++ more))))
        (ap length (event-step on_list (λ k s. scan_from s 0 k) l.bytes tray p _ o' good fed e w.1 more)))))
        (λ q.
        let s = said-hungry l o (hungry-is (handed_in l) o o' the-stream's q).0 in
        all-used (ap (λ x. event_in x) (call-left l room p) ∙ s.1)
        (λ more.
        next (λ b t n. length (to_tell l (p ++ more)) ≡ length (left b t more))
        (ap length (hungry-step on_list (λ k s. scan_from s 0 k) l.bytes tray p _ o' good fed q more))))
        (call-says on_list (λ k s. scan_from s 0 k) l.bytes tray p _ o' fed)

  abbrev end : Outcome
  end = finish_outcome (handed_in l)

  abbrev end' : Outcome
  end' = stream.finished l.bytes tray

  the-stream's-end : end ≡ end'
  unfolding finish_outcome
  the-stream's-end = guarded-is (handed_in l) end' f.ready.tray-ready f.ready.books-sound f.log-room

  finish-steps : FinishSteps l
  finish-steps =
      ⊎_elim
      (λ w.
      let e = w.0 in
      let t = uncut.told_of (handed_in l).books l.second e in
      let s = says-hears l end t (tells-so (handed_in l) end end' the-stream's-end (end_kept l.bytes tray f.ready.tray-ready) e w.1).0 in
      let m = back (handed_in l) end end' the-stream's-end (λ b t u d. length (to_tell l []) ≡ suc (length (left b t [])))
      (ap length (finish-event f.ready.tray-ready e w.1)) in
      an-event (heard_of t) (subst (λ x. Hears x (heard_of t)) (sym (finish-left l room)) s.1)
      (subst (λ s. length (to_tell l []) ≡ suc (length (left s.bytes s.tray []))) (sym (next-finish l room)) m))
      (λ q.
      let s = said-done l end (done-is (handed_in l) end end' the-stream's-end q).0 in
      is-done (ap (λ x. event_in x) (finish-left l room) ∙ s.1))
      (end-says l.bytes tray _ end' (end-ended l.bytes tray f.ready.tray-ready))

  -- a fresh tray that is handed nothing
  idle : tray ≡ fresh_tray → (event_in (call_leaves l []) ≡ 0) × (used_in (call_leaves l []) ≡ 0) × (tray_in (call_leaves l []).tray ≡ fresh_tray)
  unfolding feed decide laid told_answer told_said event_of state_said
  idle q =
      let e : call_outcome (handed_in l) [] ≡ hungry (record { held = []; shown = 0; noise = 0 }) 0
      = the-stream's [] ∙ called_is l.bytes tray [] f.ready.tray-ready ∙ ap (λ t. feed [] (live_of l.bytes t) t.noise) q in
      let w = call-left l room [] ∙ ap (left_by l) e in
      (ap (λ x. event_in x) w, ap (λ x. used_in x) w, ap (λ x. tray_in x.tray) w ∙ tray-back fresh_tray l.tray (omega arith))

-- ---- the bytes that a call is handed of what is left, and those that are left behind them

some-handed : (n : ℕ) (rest : List ℕ) → 1 ≤ n → 1 ≤ length rest → 1 ≤ length (take n rest)
some-handed zero rest h k = absurd (omega arith)
some-handed (suc n) [] h k = absurd (omega arith)
some-handed (suc n) (x ∷ rest) h k = omega arith

module _ (n : ℕ) (rest : List ℕ) where
  left_behind : (u : ℕ) → u ≤ length (take n rest) → drop u (take n rest) ++ drop n rest ≡ drop u rest
  left_behind u h = sym (drop-append-le u (take n rest) (drop n rest) h) ∙ ap (drop u) (take-append-drop n rest)

  behind-all : (u : ℕ) → u ≡ length (take n rest) → drop n rest ≡ drop u rest
  behind-all u h = sym (drop-append_seam (take n rest) (drop n rest)) ∙ ap₂ (λ (u : ℕ) s. drop u s) (sym h) (take-append-drop n rest)

-- a call behind an event may be handed none: once
abbrev awake : ℕ → ℕ
awake zero = 0
awake (suc n) = 1

awake-most : (event : ℕ) → awake event ≤ 1
awake-most zero = omega arith
awake-most (suc n) = omega arith

fewer : (event u : ℕ) (rest : List ℕ) → (event ≡ 0 → (1 ≤ u) × (1 ≤ length rest)) → 2 * length (drop u rest) + 1 ≤ 2 * length rest + awake event
fewer zero u rest h = simp length-drop (omega (arith, (h refl).0, (h refl).1))
fewer (suc n) u rest h = simp length-drop (omega arith)

-- ---- the calls end

module _ (lends : Lender) (rooms : LendsRoom lends) where
  has_room : (x : Point) → Fit x.left → HasRoom (lends x)
  has_room x f = rooms x (record { log-room = f.log-room; told-room = f.there.told-room; header-room = f.there.header-room })

  fit-lent : (x : Point) → Fit x.left → Fit (lent_at lends x)
  fit-lent x f = fit-anew (lends x).second (has_room x f) f

  pub record FedTo (c : Caller) (x : Point) (ps : List (List ℕ)) : Type 0 where
    pub heard : List Heard
    pub end₁ : Point
    pub feeds : FeedsBy c lends x ps heard end₁
    pub fit : Fit end₁.left

  pub record FedStreamTo (c : Caller) (cuts : Cutter) (x : Point) (rest : List ℕ) : Type 0 where
    pub heard : List Heard
    pub end₁ : Point
    pub feeds : FeedsStreamBy c lends cuts x rest heard end₁
    pub fit : Fit end₁.left

  pub record ClosedTo (x : Point) : Type 0 where
    pub heard : List Heard
    pub end₁ : Point
    pub closes : ClosesBy lends x heard end₁

  one-portion : {c : Caller} (ps : List (List ℕ)) → ((x : Point) → Fit x.left → FedTo c x ps)
      → (n : ℕ) (p : List ℕ) (x : Point) → Fit x.left → length (to_tell x.left p) < n → FedTo c x (p ∷ ps)
  one-portion ps more zero p x f few = absurd (omega arith)
  one-portion {c} ps more (suc n) p x f few = go (λ p x f few. one-portion ps more n p x f few) (call-steps l g p)
    where
      l : Lent
      l = lent_at lends x

      g : Fit l
      g = fit-lent x f

      go : ((p : List ℕ) (x : Point) → Fit x.left → length (to_tell x.left p) < n → FedTo c x (p ∷ ps)) → CallSteps l p → FedTo c x (p ∷ ps)
      go again (an-event h k m) =
          let e = simp append-nil at (m []) in
          let d = again (drop (used_in (called lends x p)) p) (point (suc x.calls) (x.heard ++ h ∷ []) (called lends x p)) (call-fit l g p) (omega (arith, few, e)) in
          record { heard = h ∷ d.heard; end₁ = d.end₁; feeds = FeedsBy.an-event (call-is-zero l g p) k d.feeds; fit = d.fit }
      go again (all-used k m) =
          let d = more (point (suc x.calls) x.heard (called lends x p)) (call-fit l g p) in
          record { heard = d.heard; end₁ = d.end₁; feeds = FeedsBy.all-used (call-is-zero l g p) k d.feeds; fit = d.fit }

  pub feeds-end : {c : Caller} (portions : List (List ℕ)) (x : Point) → Fit x.left → FedTo c x portions
  feeds-end [] x f = record { heard = []; end₁ = x; feeds = FeedsBy.no_more; fit = f }
  feeds-end (p ∷ ps) x f = one-portion ps (λ x f. feeds-end ps x f) (suc (length (to_tell x.left p))) p x f (omega arith)

  closes_in : (n : ℕ) (x : Point) → Fit x.left → length (to_tell x.left []) < n → ClosedTo x
  closes_in zero x f few = absurd (omega arith)
  closes_in (suc n) x f few = go (λ x f few. closes_in n x f few) (finish-steps l g)
    where
      l : Lent
      l = lent_at lends x

      g : Fit l
      g = fit-lent x f

      go : ((x : Point) → Fit x.left → length (to_tell x.left []) < n → ClosedTo x) → FinishSteps l → ClosedTo x
      go again (an-event h k m) =
          let d = again (point (suc x.calls) (x.heard ++ h ∷ []) (finished lends x)) (finish-fit l g) (omega (arith, few, m)) in
          record { heard = h ∷ d.heard; end₁ = d.end₁; closes = ClosesBy.an-event (finish-is-zero l g) k d.closes }
      go again (is-done k) = record { heard = []; end₁ = point (suc x.calls) x.heard (finished lends x); closes = ClosesBy.is-done (finish-is-zero l g) k }

  pub closes-end : (x : Point) → Fit x.left → ClosedTo x
  closes-end x f = closes_in (suc (length (to_tell x.left []))) x f (omega arith)

  -- of a stream that is cut: each call tells one event more, or uses bytes, or is the one behind an event
  module _ (c : Caller) (cuts : Cutter) (gives : GivesMore cuts) where
    abbrev to_do : Point → (rest : List ℕ) → ℕ
    to_do x rest = 2 * length (to_tell x.left rest) + 2 * length rest + awake (event_in x.left)

    a_call : (n : ℕ) → ((rest : List ℕ) (x : Point) → Fit x.left → to_do x rest < n → FedStreamTo c cuts x rest)
        → (rest : List ℕ) (x : Point) → Fit x.left → to_do x rest < suc n → (event_in x.left ≡ 0 → 1 ≤ length rest) → FedStreamTo c cuts x rest
    a_call n again rest x f few w = go (call-steps l g p)
      where
        l : Lent
        l = lent_at lends x

        g : Fit l
        g = fit-lent x f

        p : List ℕ
        p = take (cuts x rest) rest

        l₁ : Lent
        l₁ = called lends x p

        u : ℕ
        u = used_in l₁

        whole : length (to_tell x.left rest) ≡ length (to_tell l (p ++ drop (cuts x rest) rest))
        whole = ap (λ s. length (to_tell l s)) (sym (take-append-drop (cuts x rest) rest))

        go : CallSteps l p → FedStreamTo c cuts x rest
        go (an-event h k m) =
            let less = (on-used l p (call-is-zero l g p) h k).1 in
            let e = whole ∙ m (drop (cuts x rest) rest) ∙ ap (λ s. suc (length (to_tell l₁ s))) (left_behind (cuts x rest) rest u less) in
            let d = again (drop u rest) (point (suc x.calls) (x.heard ++ h ∷ []) l₁) (call-fit l g p) (omega (arith, few, e, awake-most (event_in l₁), length-drop u rest)) in
            record { heard = h ∷ d.heard; end₁ = d.end₁; feeds = FeedsStreamBy.an-event (call-is-zero l g p) k d.feeds; fit = d.fit }
        go (all-used k m) =
            let all = all-of-it l p (call-is-zero l g p) k in
            let e = whole ∙ m (drop (cuts x rest) rest) ∙ ap (λ s. length (to_tell l₁ s)) (behind-all (cuts x rest) rest u all) in
            let less = fewer (event_in x.left) u rest (λ z. (omega (arith, all, some-handed (cuts x rest) rest (gives x rest z (w z)) (w z)), w z)) in
            let d = again (drop u rest) (point (suc x.calls) x.heard l₁) (call-fit l g p) (omega (arith, few, e, less, ap awake k)) in
            record { heard = d.heard; end₁ = d.end₁; feeds = FeedsStreamBy.all-used (call-is-zero l g p) k d.feeds; fit = d.fit }

    stop-or-call : (rest : List ℕ) (x : Point) → ((rest ≡ []) × MayStop c x) ⊎ (event_in x.left ≡ 0 → 1 ≤ length rest)
    stop-or-call (y ∷ rest) x = inr (λ _. omega arith)
    stop-or-call [] x = go c (event_in x.left) refl
      where
        go : (c : Caller) (event : ℕ) → event_in x.left ≡ event → ((◌≡◌ {A = List ℕ} [] []) × MayStop c x) ⊎ (event_in x.left ≡ 0 → 1 ≤ 0)
        go hurries event q = inl (refl, tt)
        go waits zero q = inl (refl, q)
        go waits (suc n) q = inr (λ z. absurd (omega (arith, q, z)))

    stream-in : (n : ℕ) (rest : List ℕ) (x : Point) → Fit x.left → to_do x rest < n → FedStreamTo c cuts x rest
    stream-in zero rest x f few = absurd (omega arith)
    stream-in (suc n) rest x f few =
        ⊎_elim
        (λ w. subst (λ rest. FedStreamTo c cuts x rest) (sym w.0) (record { heard = []; end₁ = x; feeds = FeedsStreamBy.no_more w.1; fit = f }))
        (λ w. a_call n (λ rest x f few. stream-in n rest x f few) rest x f few w)
        (stop-or-call rest x)

    pub stream_end : (rest : List ℕ) (x : Point) → Fit x.left → FedStreamTo c cuts x rest
    stream_end rest x f = stream-in (suc (to_do x rest)) rest x f (omega arith)

  -- where no call is handed anything, a fresh tray stays fresh, and what is left of the stream is left for ever
  pub goes_on : {c : Caller} {x x₁ : Point} {rest : List ℕ} {hs : List Heard} → FeedsStreamBy c lends (λ _ _. 0) x rest hs x₁ → Fit x.left
      → tray_in x.left.tray ≡ fresh_tray → 1 ≤ length rest → ⊥
  goes_on (FeedsStreamBy.no_more m) f t some = omega (arith, some)
  goes_on (FeedsStreamBy.an-event {x} q (a-frame e) d) f t some = let y = (idle (lent_at lends x) (fit-lent x f) t).0 in omega (arith, e, y)
  goes_on (FeedsStreamBy.an-event {x} q (some-noise e) d) f t some = let y = (idle (lent_at lends x) (fit-lent x f) t).0 in omega (arith, e, y)
  goes_on (FeedsStreamBy.all-used {x} {rest = rest} q k d) f t some =
      let g = fit-lent x f in
      let y = idle (lent_at lends x) g t in
      goes_on d (call-fit (lent_at lends x) g []) y.2 (omega (arith, some, y.1, length-drop (used_in (called lends x [])) rest))

-- ---- such calls are calls of Driver.antt, at the seconds that they were handed: before each of them the slices are lent anew

then-time : (h : Heard) (second : ℕ) (behind : Seconds) → InTime h second (heard_then h second behind)
then-time (frame header bytes number sf bit entries) second behind = refl
then-time (noise count) second behind = tt

then-later : (h : Heard) (second : ℕ) (behind : Seconds) → later_by h (heard_then h second behind) ≡ behind
then-later (frame header bytes number sf bit entries) second behind = refl
then-later (noise count) second behind = refl

module _ (lends : Lender) (rooms : LendsRoom lends) where
  pub feeds-fit : {c : Caller} {x x₁ : Point} {ps : List (List ℕ)} {hs : List Heard} → FeedsBy c lends x ps hs x₁ → Fit x.left → Fit x₁.left
  feeds-fit FeedsBy.no_more f = f
  feeds-fit (FeedsBy.an-event {x} {p = p} q k d) f = feeds-fit d (call-fit (lent_at lends x) (fit-lent lends rooms x f) p)
  feeds-fit (FeedsBy.all-used {x} {p = p} q k d) f = feeds-fit d (call-fit (lent_at lends x) (fit-lent lends rooms x f) p)
  feeds-fit (FeedsBy.passed_over g d) f = feeds-fit d f

  pub feeds-any : {c : Caller} {x x₁ : Point} {ps : List (List ℕ)} {hs : List Heard} (d : FeedsBy c lends x ps hs x₁) → Fit x.left → (behind : Seconds)
      → (Feeds c (seconds_fed d behind) x.left ps hs x₁.left) × (later_all hs (seconds_fed d behind) ≡ behind)
  unfolding later_all seconds_fed
  feeds-any FeedsBy.no_more f behind = (Feeds.no_more, refl)
  feeds-any {c} (FeedsBy.an-event {x} {x₁} {p} {ps} {h} {hs} q k d) f behind =
      let y = feeds-any d (call-fit (lent_at lends x) (fit-lent lends rooms x f) p) behind in
      let n = (lends x).second in
      let e = then-later h n (seconds_fed d behind) in
      let z = subst (λ z. Feeds c z (called lends x p) (drop (used_in (called lends x p)) p ∷ ps) hs x₁.left) (sym e) y.0 in
      (Feeds.lent-anew (has_room lends rooms x f) (Feeds.an-event q k (then-time h n (seconds_fed d behind)) z), ap (later_all hs) e ∙ y.1)
  feeds-any (FeedsBy.all-used {x} {p = p} q k d) f behind =
      let y = feeds-any d (call-fit (lent_at lends x) (fit-lent lends rooms x f) p) behind in
      (Feeds.lent-anew (has_room lends rooms x f) (Feeds.all-used q k y.0), y.1)
  feeds-any (FeedsBy.passed_over g d) f behind = let y = feeds-any d f behind in (Feeds.passed_over g y.0, y.1)

  pub stream-fit : {c : Caller} {cuts : Cutter} {x x₁ : Point} {rest : List ℕ} {hs : List Heard} → FeedsStreamBy c lends cuts x rest hs x₁ → Fit x.left → Fit x₁.left
  stream-fit (FeedsStreamBy.no_more m) f = f
  stream-fit {cuts = cuts} (FeedsStreamBy.an-event {x} {rest = rest} q k d) f = stream-fit d (call-fit (lent_at lends x) (fit-lent lends rooms x f) (take (cuts x rest) rest))
  stream-fit {cuts = cuts} (FeedsStreamBy.all-used {x} {rest = rest} q k d) f = stream-fit d (call-fit (lent_at lends x) (fit-lent lends rooms x f) (take (cuts x rest) rest))

  pub stream-any : {c : Caller} {cuts : Cutter} {x x₁ : Point} {left : List ℕ} {hs : List Heard} (d : FeedsStreamBy c lends cuts x left hs x₁) → Fit x.left → (behind : Seconds)
      → (FeedsStream (seconds_streamed d behind) x.left left hs x₁.left) × (later_all hs (seconds_streamed d behind) ≡ behind)
  unfolding later_all seconds_streamed
  stream-any (FeedsStreamBy.no_more m) f behind = (FeedsStream.no_more, refl)
  stream-any {cuts = cuts} (FeedsStreamBy.an-event {x} {x₁} {rest = left} {h} {hs} q k d) f behind =
      let p = take (cuts x left) left in
      let y = stream-any d (call-fit (lent_at lends x) (fit-lent lends rooms x f) p) behind in
      let n = (lends x).second in
      let e = then-later h n (seconds_streamed d behind) in
      let z = subst (λ z. FeedsStream z (called lends x p) (drop (used_in (called lends x p)) left) hs x₁.left) (sym e) y.0 in
      (FeedsStream.lent-anew (has_room lends rooms x f) (FeedsStream.an-event (cuts x left) q k (then-time h n (seconds_streamed d behind)) z), ap (later_all hs) e ∙ y.1)
  stream-any {cuts = cuts} (FeedsStreamBy.all-used {x} {rest = left} q k d) f behind =
      let y = stream-any d (call-fit (lent_at lends x) (fit-lent lends rooms x f) (take (cuts x left) left)) behind in
      (FeedsStream.lent-anew (has_room lends rooms x f) (FeedsStream.all-used (cuts x left) q k y.0), y.1)

  pub closes_any : {x x₁ : Point} {hs : List Heard} (d : ClosesBy lends x hs x₁) → Fit x.left → Closes (seconds_closed d) x.left hs x₁.left
  unfolding seconds_closed
  closes_any (ClosesBy.an-event {x} {x₁} {h} {hs} q k d) f =
      let n = (lends x).second in
      let z = subst (λ z. Closes z (finished lends x) hs x₁.left) (sym (then-later h n (seconds_closed d))) (closes_any d (finish-fit (lent_at lends x) (fit-lent lends rooms x f))) in
      Closes.lent-anew (has_room lends rooms x f) (Closes.an-event q k (then-time h n (seconds_closed d)) z)
  closes_any (ClosesBy.is-done {x} q k) f = Closes.lent-anew (has_room lends rooms x f) (Closes.is-done q k)

-- ---- what a lender may look at is all that was heard

pub feeds-before : {c : Caller} {lends : Lender} {x x₁ : Point} {ps : List (List ℕ)} {hs : List Heard} → FeedsBy c lends x ps hs x₁ → x₁.heard ≡ x.heard ++ hs
feeds-before (FeedsBy.no_more {x}) = sym (append-nil x.heard)
feeds-before (FeedsBy.an-event {x} {h = h} {hs} q k d) = feeds-before d ∙ append_assoc x.heard (h ∷ []) hs
feeds-before (FeedsBy.all-used q k d) = feeds-before d
feeds-before (FeedsBy.passed_over g d) = feeds-before d

pub stream-before : {c : Caller} {lends : Lender} {cuts : Cutter} {x x₁ : Point} {rest : List ℕ} {hs : List Heard} → FeedsStreamBy c lends cuts x rest hs x₁
    → x₁.heard ≡ x.heard ++ hs
stream-before (FeedsStreamBy.no_more {x} m) = sym (append-nil x.heard)
stream-before (FeedsStreamBy.an-event {x} {h = h} {hs} q k d) = stream-before d ∙ append_assoc x.heard (h ∷ []) hs
stream-before (FeedsStreamBy.all-used q k d) = stream-before d

pub closes_before : {lends : Lender} {x x₁ : Point} {hs : List Heard} → ClosesBy lends x hs x₁ → x₁.heard ≡ x.heard ++ hs
closes_before (ClosesBy.an-event {x} {h = h} {hs} q k d) = closes_before d ∙ append_assoc x.heard (h ∷ []) hs
closes_before (ClosesBy.is-done {x} q k) = sym (append-nil x.heard)
