-- The turns of the loops of `listen`, in plain values: the tray stays ready, each event told is one of those that are left to tell, and what is still to be told from here
-- is what was to be told at the start.
use mathlib.Core.Path.{◌≡◌, refl, sym, ap, ◌∙◌}
use mathlib.Core.Logic.{◌⊎◌, inl, inr, ⊎_elim}
use mathlib.Core.List.{List, [], ◌∷◌, ◌++◌}
use mathlib.Core.Bool.{Bool, true, false, not, ◌&&◌}
use Prim.Native.Nat.{ℕ, zero, suc, ◌+◌, ◌-◌, ◌≤◌, ◌<◌, ◌^◌}
use native.Mathlib.Omega.{arith}
use lib.Dec.{ltb}
use lib.ListN.{length, take, drop, length-drop, length-append}
use lib.Seq.{take_all, drop-drop, length-take-le}
use mir.Val.{Fits}
use mir.Syntax.{w64}
use borrow.Author.Tests.{not-true, not-false, lt-ltb, le-ltb}
use Rattle.text.specs.Text.{waiting_after, said_after, waiting, say_all}
use Rattle.stream.specs.declared.Tray.{Tray}
use Rattle.stream.specs.declared.Said.{Said}
use Rattle.stream.specs.declared.Said.TheVariants.{Frame, Noise, Hungry, Done, Refused}
use Rattle.stream.specs.declared.Answer.{Answer}
use Rattle.stream.specs.Scan.{Event, frame, noise, scan_from}
use Rattle.stream.specs.Tray.{fresh_tray, said_of, called, finished, call_answer, call_bytes, finish_answer, finish_bytes}
use Rattle.stream.specs.Machine.{on_list, scan-reading}
use Rattle.stream.specs.Steps.{call-fed, call-says, end-ended, end-says}
use Rattle.stream.specs.Driver.{Ready, Tells, Feeds, Closes}
use Rattle.stream.specs.Driving.{left, call-event, finish-event}
use Rattle.stream.specs.Theorems.{call-sound, finish-sound, call-used}
use Rattle.listen.specs.declared.Turn.{Turn}
use Rattle.listen.specs.declared.Stop.{Stop}
use Rattle.listen.specs.Events.{is_event}
use Rattle.listen.specs.Lines.{line_of, lines_of, end_line}
use Rattle.listen.specs.Listens.{Told, Ended, Reads, came, Came, nothing, Closed, Listened}

told : (s : Said) (b : List ℕ) → is_event s ≡ true → (e : Event) × Tells s b e × (said_of e ≡ s)
told (Frame f) b q = (frame f (take f.length b), refl, refl)
told (Noise n) b q = (noise n, refl, refl)
told Hungry b q = let z : ◌≡◌ {A = ℕ} 0 1 = cc in absurd (omega arith)
told Done b q = let z : ◌≡◌ {A = ℕ} 0 1 = cc in absurd (omega arith)
told (Refused r) b q = let z : ◌≡◌ {A = ℕ} 0 1 = cc in absurd (omega arith)

untold : (s : Said) (b : List ℕ) (e : Event) → Tells s b e → is_event s ≡ false → ⊥
untold (Frame f) b e k q = let z : ◌≡◌ {A = ℕ} 0 1 = cc in absurd (omega arith)
untold (Noise n) b e k q = let z : ◌≡◌ {A = ℕ} 0 1 = cc in absurd (omega arith)
untold Hungry b e k q = k
untold Done b e k q = k
untold (Refused r) b e k q = k

-- a line said, and others behind it
says_on : (e : Event) (s : Said) (out out' oo : List ℕ) (at at' aa : ℕ) (texts : List (List ℕ)) → said_of e ≡ s
    → at' ≡ waiting_after out at (line_of s) → out' ≡ said_after out at (line_of s) → waiting oo aa ≡ say_all (waiting out' at') texts
    → waiting oo aa ≡ say_all (waiting out at) (line_of (said_of e) ∷ texts)
unfolding say_all
says_on e s out out' oo at at' aa texts q a o h = rw (q, ← a, ← o) h

-- ---- a call on the rest of a portion

-- what holds from turn to turn
pub record Hearing (bytes₀ : List ℕ) (tray₀ : Tray) (out₀ : List ℕ) (at₀ : ℕ) (portion bytes : List ℕ) (tray : Tray) (out : List ℕ) (at used : ℕ) : Type 0 where
  pub ready : Ready bytes tray
  pub used-in : used ≤ length portion
  pub same_bytes : length bytes ≡ length bytes₀
  pub same_out : length out ≡ length out₀
  pub goes : (b : List ℕ) (t : Tray) (o : List ℕ) (a : ℕ) → Told bytes tray out at (drop used portion) b t o a → Told bytes₀ tray₀ out₀ at₀ portion b t o a

pub first-call : (bytes : List ℕ) (tray : Tray) (out : List ℕ) (at : ℕ) (portion : List ℕ) → Ready bytes tray → Hearing bytes tray out at portion bytes tray out at 0
first-call bytes tray out at portion r =
    record { ready = r; used-in = omega arith; same_bytes = refl; same_out = refl; goes = λ b t o a z. z }

module _ (bytes₀ : List ℕ) (tray₀ : Tray) (out₀ : List ℕ) (at₀ : ℕ) (portion b : List ℕ) (t : Tray) (out : List ℕ) (at used : ℕ)
    (h : Hearing bytes₀ tray₀ out₀ at₀ portion b t out at used) (b' : List ℕ) (a : Answer)
    (p : a ≡ call_answer b t (take (length portion - used) (drop used portion))) (q : b' ≡ call_bytes b t (take (length portion - used) (drop used portion))) where
  rest : take (length portion - used) (drop used portion) ≡ drop used portion
  rest = take_all (length portion - used) (drop used portion) (rw length-drop (omega arith))

  p' : a ≡ call_answer b t (drop used portion)
  p' = rw rest at p

  q' : b' ≡ call_bytes b t (drop used portion)
  q' = rw rest at q

  pub ready-next : Ready b' a.tray
  ready-next = rw (p, q) (call-sound h.ready (take (length portion - used) (drop used portion)))

  inside-next : used + a.used ≤ length portion
  inside-next =
      let i = h.used-in in
      let u = call-used b t (take (length portion - used) (drop used portion)) in
      let l : length (take (length portion - used) (drop used portion)) ≡ length portion - used = ap length rest ∙ length-drop used portion in
      let s : a.used ≡ (call_answer b t (take (length portion - used) (drop used portion))).used = ap (λ x. x.used) p in
      omega arith

  pub fits_next : length portion < 2 ^ 64 → Fits w64 (used + a.used)
  fits_next l = let i = inside-next in omega arith

  -- no event: the stream is hungry, and all is told
  module _ (s : Bool) (e : s ≡ is_event a.said) (n : not s ≡ true) where
    hungry : (call_answer b t (drop used portion)).said ≡ Hungry
    hungry =
        let f : is_event (call_answer b t (drop used portion)).said ≡ false = rw p' at (sym e ∙ not-true s n) in
        ⊎_elim (λ w. absurd (untold (call_answer b t (drop used portion)).said (call_bytes b t (drop used portion)) w.0 w.1 f)) (λ k. k)
        (call-says on_list (λ k s. scan_from s 0 k) b t (drop used portion) _ (called b t (drop used portion))
        (call-fed on_list (λ k s. scan_from s 0 k) scan-reading b t (drop used portion) h.ready))

    last-call : Told b t out at (drop used portion) b' a.tray out at
    unfolding lines_of say_all
    last-call = record { events = []; feeds = rw (p', q') (Feeds.all-used hungry Feeds.no_more); says = refl }

    pub all_told : Told bytes₀ tray₀ out₀ at₀ portion b' a.tray out at
    all_told = h.goes b' a.tray out at last-call

  -- an event: its line is said
  module _ (s : Bool) (e : s ≡ is_event a.said) (n : not s ≡ false) where
    abbrev event : (e : Event) × Tells a.said b' e × (said_of e ≡ a.said)
    event = told a.said b' (sym e ∙ not-false s n)

    tells : Tells (call_answer b t (drop used portion)).said (call_bytes b t (drop used portion)) event.0
    tells = rw (← p', ← q') event.1

    pub fewer-left : length (left b' a.tray (drop (used + a.used) portion)) < length (left b t (drop used portion))
    fewer-left =
        let l = call-event h.ready (drop used portion) event.0 tells in
        rw (← drop-drop a.used used portion, p', q') (omega (arith, ap length l))

    module _ (out' : List ℕ) (at' : ℕ) (w : at' ≡ waiting_after out at (line_of a.said)) (o : out' ≡ said_after out at (line_of a.said)) where
      one_more : (bb : List ℕ) (tt' : Tray) (oo : List ℕ) (aa : ℕ) → Told b' a.tray out' at' (drop (used + a.used) portion) bb tt' oo aa
          → Told b t out at (drop used portion) bb tt' oo aa
      unfolding lines_of
      one_more bb tt' oo aa z = record {
        events = event.0 ∷ z.events;
        feeds = Feeds.an-event tells (rw (← drop-drop a.used used portion, q', p') at z.feeds);
        says = says_on event.0 a.said out out' oo at at' aa (lines_of z.events) event.2 w o z.says;
      }

      pub next-call : length b' ≡ length b → length out' ≡ length out
          → Hearing bytes₀ tray₀ out₀ at₀ portion b' a.tray out' at' (used + a.used)
      next-call lb lo = record {
        ready = ready-next;
        used-in = inside-next;
        same_bytes = lb ∙ h.same_bytes;
        same_out = lo ∙ h.same_out;
        goes = λ bb tt' oo aa z. h.goes bb tt' oo aa (one_more bb tt' oo aa z);
      }

-- ---- a finish

pub record Ending (bytes₀ : List ℕ) (tray₀ : Tray) (out₀ : List ℕ) (at₀ : ℕ) (bytes : List ℕ) (tray : Tray) (out : List ℕ) (at : ℕ) : Type 0 where
  pub ready : Ready bytes tray
  pub same_bytes : length bytes ≡ length bytes₀
  pub same_out : length out ≡ length out₀
  pub goes : (b : List ℕ) (t : Tray) (o : List ℕ) (a : ℕ) → Ended bytes tray out at b t o a → Ended bytes₀ tray₀ out₀ at₀ b t o a

pub first-finish : (bytes : List ℕ) (tray : Tray) (out : List ℕ) (at : ℕ) → Ready bytes tray → Ending bytes tray out at bytes tray out at
first-finish bytes tray out at r = record { ready = r; same_bytes = refl; same_out = refl; goes = λ b t o a z. z }

module _ (bytes₀ : List ℕ) (tray₀ : Tray) (out₀ : List ℕ) (at₀ : ℕ) (b : List ℕ) (t : Tray) (out : List ℕ) (at : ℕ)
    (h : Ending bytes₀ tray₀ out₀ at₀ b t out at) (b' : List ℕ) (a : Answer) (p : a ≡ finish_answer b t) (q : b' ≡ finish_bytes b t) where
  module _ (s : Bool) (e : s ≡ is_event a.said) (n : not s ≡ true) where
    done : (finish_answer b t).said ≡ Done
    done =
        let f : is_event (finish_answer b t).said ≡ false = rw p at (sym e ∙ not-true s n) in
        ⊎_elim (λ w. absurd (untold (finish_answer b t).said (finish_bytes b t) w.0 w.1 f)) (λ k. k) (end-says b t _ (finished b t) (end-ended b t h.ready))

    pub all-ended : (out' : List ℕ) (at' : ℕ) → at' ≡ waiting_after out at end_line → out' ≡ said_after out at end_line → Ended bytes₀ tray₀ out₀ at₀ b' a.tray out' at'
    unfolding lines_of say_all
    all-ended out' at' w o =
        h.goes b' a.tray out' at' (record { events = []; closes = rw (p, q) (Closes.is-done done); says = rw (o, w) })

  module _ (s : Bool) (e : s ≡ is_event a.said) (n : not s ≡ false) where
    abbrev last-event : (e : Event) × Tells a.said b' e × (said_of e ≡ a.said)
    last-event = told a.said b' (sym e ∙ not-false s n)

    tells-last : Tells (finish_answer b t).said (finish_bytes b t) last-event.0
    tells-last = rw (← p, ← q) last-event.1

    pub fewer-last : length (left b' a.tray []) < length (left b t [])
    fewer-last = rw (p, q) (omega (arith, ap length (finish-event h.ready last-event.0 tells-last)))

    module _ (out' : List ℕ) (at' : ℕ) (w : at' ≡ waiting_after out at (line_of a.said)) (o : out' ≡ said_after out at (line_of a.said)) where
      one_last : (bb : List ℕ) (tt' : Tray) (oo : List ℕ) (aa : ℕ) → Ended b' a.tray out' at' bb tt' oo aa → Ended b t out at bb tt' oo aa
      unfolding lines_of
      one_last bb tt' oo aa z = record {
        events = last-event.0 ∷ z.events;
        closes = Closes.an-event tells-last (rw (q, p) at z.closes);
        says = says_on last-event.0 a.said out out' oo at at' aa (lines_of z.events ++ (end_line ∷ [])) last-event.2 w o z.says;
      }

      pub next-finish : length b' ≡ length b → length out' ≡ length out → Ending bytes₀ tray₀ out₀ at₀ b' a.tray out' at'
      next-finish lb lo = record {
        ready = rw (p, q) (finish-sound h.ready);
        same_bytes = lb ∙ h.same_bytes;
        same_out = lo ∙ h.same_out;
        goes = λ bb tt' oo aa z. h.goes bb tt' oo aa (one_last bb tt' oo aa z);
      }

-- ---- a read

pub came-none : (bytes out portion : List ℕ) (tray : Tray) → length portion ≡ 0
    → Came bytes tray out portion bytes out (record { tray = tray; got = 0; is_written = true; more = false })
came-none bytes out [] tray h = record { reads = Reads.no_more; got-is = refl; goes_on = rw (le-ltb 0 0 (omega arith)) }
came-none bytes out (x ∷ xs) tray h = absurd (omega arith)

pub came-some : (bytes bytes' out out' portion : List ℕ) (tray tray' : Tray) (at : ℕ) (w : Bool) → (length portion ≡ 0 → ⊥) → Told bytes tray out 0 portion bytes' tray' out' at
    → Came bytes tray out portion bytes' out' (record { tray = tray'; got = length portion; is_written = w; more = w })
came-some bytes bytes' out out' [] tray tray' at w h z = absurd (h refl)
came-some bytes bytes' out out' (x ∷ xs) tray tray' at w h z =
    record { reads = Reads.a-portion at z Reads.no_more; got-is = refl; goes_on = rw (lt-ltb 0 (length (x ∷ xs)) (omega arith)) }

pub came-read : (bytes bytes' out out' input : List ℕ) (tray : Tray) (n : ℕ) (turn : Turn) → n ≤ length input → Came bytes tray out (take n input) bytes' out' turn
    → Came bytes tray out (take n input) bytes' out' (record { tray = turn.tray; got = n; is_written = turn.is_written; more = turn.more })
came-read bytes bytes' out out' input tray n turn h z =
    let l : length (take n input) ≡ n = length-take-le n input h in
    let e : turn.got ≡ n = z.got-is ∙ l in
    record { reads = z.reads; got-is = sym l; goes_on = z.goes_on ∙ ap (λ (k : ℕ). ltb 0 k && turn.is_written) e }

-- ---- from read to read

pub record Listening (bytes₀ input₀ out₀ bytes input out : List ℕ) (turn : Turn) (turns : ℕ) : Type 0 where
  pub ready : Ready bytes turn.tray
  pub same_bytes : length bytes ≡ length bytes₀
  pub same-input : length input ≡ length input₀
  pub same_out : length out ≡ length out₀
  pub portions : List (List ℕ)
  pub reads : Reads bytes₀ fresh_tray out₀ portions bytes turn.tray out
  pub goes_on : turn.more ≡ (ltb 0 turn.got && turn.is_written)
  pub spent : length portions + (nothing turn.got + turns) ≡ 2 ^ 64 - 1

pub first_read : (bytes input out : List ℕ) (tray : Tray) → tray ≡ fresh_tray → Ready bytes fresh_tray
    → Listening bytes input out bytes input out (record { tray = tray; got = 1; is_written = true; more = true }) 18446744073709551615
first_read bytes input out tray e r = record {
  ready = rw e r;
  same_bytes = refl;
  same-input = refl;
  same_out = refl;
  portions = [];
  reads = rw e Reads.no_more;
  goes_on = rw (lt-ltb 0 1 (omega arith));
  spent = omega arith;
}

read-on : {b b₁ b₂ o o₁ o₂ : List ℕ} {t t₁ t₂ : Tray} {ps qs : List (List ℕ)} → Reads b t o ps b₁ t₁ o₁ → Reads b₁ t₁ o₁ qs b₂ t₂ o₂ → Reads b t o (ps ++ qs) b₂ t₂ o₂
read-on Reads.no_more r = r
read-on (Reads.a-portion at z f) r = Reads.a-portion at z (read-on f r)

-- a read is a portion, or nothing came
one-read : (portion : List ℕ) (got : ℕ) → got ≡ length portion → length (came portion) + nothing got ≡ 1
one-read [] got e = rw e
one-read (x ∷ xs) got e = rw e

some : (got : ℕ) (w : Bool) → true ≡ (ltb 0 got && w) → nothing got ≡ 0
some zero w e = let z : false ≡ true = (rw (le-ltb 0 0 (omega arith)) at (sym e)) in let y : ◌≡◌ {A = ℕ} 0 1 = cc in absurd (omega arith)
some (suc n) w e = refl

module _ (bytes₀ input₀ out₀ bytes input out : List ℕ) (turn : Turn) (turns : ℕ) (h : Listening bytes₀ input₀ out₀ bytes input out turn turns) where
  pub next-read : (bytes' input' out' : List ℕ) (turn' : Turn) → (turns ≡ 0 → ⊥) → not turn.more ≡ false
      → Came bytes turn.tray out (take turn'.got input') bytes' out' turn' → Ready bytes' turn'.tray
      → length bytes' ≡ length bytes → length input' ≡ length input → length out' ≡ length out
      → Listening bytes₀ input₀ out₀ bytes' input' out' turn' (turns - 1)
  next-read bytes' input' out' turn' left n z r lb li lo = record {
    ready = r;
    same_bytes = lb ∙ h.same_bytes;
    same-input = li ∙ h.same-input;
    same_out = lo ∙ h.same_out;
    portions = h.portions ++ came (take turn'.got input');
    reads = read-on h.reads z.reads;
    goes_on = z.goes_on;
    spent =
        let a = length-append h.portions (came (take turn'.got input')) in
        let b = one-read (take turn'.got input') turn'.got z.got-is in
        let d = some turn.got turn.is_written (sym (not-false turn.more n) ∙ h.goes_on) in
        let k = h.spent in
        let m : 0 < turns = pos-of-ne turns left in
        omega arith;
  }
    where
      pos-of-ne : (n : ℕ) → (n ≡ 0 → ⊥) → 0 < n
      pos-of-ne zero f = absurd (f refl)
      pos-of-ne (suc n) f = omega arith

  module _ (bytes₂ out₂ : List ℕ) (c : Closed bytes turn.tray out bytes₂ out₂) (stop : Stop) (e : stop ≡ record { got = turn.got; is_written = turn.is_written; turns = turns }) where
    all_read : (stop.got ≡ 0) ⊎ ((stop.is_written ≡ false) ⊎ (stop.turns ≡ 0)) → Listened bytes₀ out₀ bytes₂ out₂ stop
    all_read s = record {
      portions = h.portions;
      bytes₁ = bytes;
      tray₁ = turn.tray;
      out₁ = out;
      reads = h.reads;
      closes = c;
      stops = s;
      spent = rw e h.spent;
    }

    pub turns-over : turns ≡ 0 → Listened bytes₀ out₀ bytes₂ out₂ stop
    turns-over z = all_read (inr (inr (ap (λ s. s.turns) e ∙ z)))

    pub reads_over : not turn.more ≡ true → Listened bytes₀ out₀ bytes₂ out₂ stop
    reads_over n = all_read (rw e (which turn.got turn.is_written (sym h.goes_on ∙ not-true turn.more n)))
      where
        which : (got : ℕ) (w : Bool) → (ltb 0 got && w) ≡ false → (got ≡ 0) ⊎ ((w ≡ false) ⊎ (turns ≡ 0))
        which zero w q = inl refl
        which (suc n) w q = inr (inl (rw (lt-ltb 0 (suc n) (omega arith)) at q))

pub closed_is : (bytes out bytes' out' : List ℕ) (tray tray' : Tray) (at : ℕ) → Ended bytes tray out 0 bytes' tray' out' at → Closed bytes tray out bytes' out'
closed_is bytes out bytes' out' tray tray' at z = record { tray' = tray'; at' = at; ends = z }
