-- The reads of `runlog`, in plain values: each that brings something is a portion, which is told, and the portions so far are told from the start on.
use Rattle.std.specs.Prelude.{Some, None}
use mathlib.Core.Path.{◌≡◌, refl, sym, ap, ◌∙◌}
use mathlib.Core.Bool.{Bool, true, false, not, ◌&&◌}
use mathlib.Core.Logic.{◌⊎◌, inl, inr}
use mathlib.Core.List.{List, [], ◌∷◌, ◌++◌}
use Prim.Native.Nat.{ℕ, zero, suc, ◌+◌, ◌-◌, ◌≤◌, ◌<◌, ◌^◌}
use native.Mathlib.Omega.{arith}
use native.Mathlib.Nat.{pos_of_ne-zero}
use lib.Dec.{ltb}
use lib.ListN.{length, take, length-append, replicate}
use lib.Seq.{length-take-le}
use borrow.Author.Tests.{not-true, not-false, lt-ltb, le-ltb}
use Rattle.sizes.specs.Sizes.{longest_frame, book_bytes, log_room}
use Rattle.stream.specs.declared.Tray.{Tray}
use Rattle.stream.specs.Tray.{fresh_tray}
use Rattle.desk.specs.declared.Desk.{Desk}
use Rattle.prepare.specs.Driver.{State}
use Rattle.runlog.specs.declared.hearing.Turn.{Turn}
use Rattle.runlog.specs.declared.hearing.Stop.{Stop}
use Rattle.runlog.specs.Results.{Wanted}
use Rattle.runlog.specs.Results.{Job}
use Rattle.runlog.specs.Command.{job_of}
use Rattle.runlog.specs.Events.{Prepared}
use Rattle.runlog.specs.Telling.{state_of, some, Told, Ended}
use Rattle.runlog.specs.Running.{Reads, Came, Closed, AllTold, Ran, Does}
use Rattle.runlog.proofs.Turns.{Turning, next-turn}

-- ---- a read

module _ (raw : Bool) (state : State) (out : List ℕ) where
  pub came-none : (portion : List ℕ) (tray : Tray) (desk : Desk) → length portion ≡ 0
      → Came raw state out portion state out (record { tray = tray; desk = desk; got = 0; is_written = true; more = false })
  came-none [] tray desk h = record { reads = Reads.no_more; got-is = refl; goes_on = rw (le-ltb 0 0 (omega arith)) }
  came-none (x ∷ xs) tray desk h = absurd (omega arith)

  module _ (state' : State) (out' : List ℕ) where
    pub came-some : (portion : List ℕ) (tray : Tray) (desk : Desk) (second at : ℕ) (w : Bool) → (length portion ≡ 0 → ⊥) → Told raw second state out 0 portion state' out' at
        → Came raw state out portion state' out' (record { tray = tray; desk = desk; got = length portion; is_written = w; more = w })
    came-some [] tray desk second at w h z = absurd (h refl)
    came-some (x ∷ xs) tray desk second at w h z =
        record { reads = Reads.a-portion second at z Reads.no_more; got-is = refl; goes_on = rw (lt-ltb 0 (length (x ∷ xs)) (omega arith)) }

    -- what came is the first part of the input, as long as the count says
    pub came-read : (input : List ℕ) (n : ℕ) (turn : Turn) → n ≤ length input → Came raw state out (take n input) state' out' turn
        → Came raw state out (take n input) state' out' (record { tray = turn.tray; desk = turn.desk; got = n; is_written = turn.is_written; more = turn.more })
    came-read input n turn h z =
        let l : length (take n input) ≡ n = length-take-le n input h in
        record { reads = z.reads; got-is = sym l; goes_on = z.goes_on ∙ ap (λ (k : ℕ). ltb 0 k && turn.is_written) (z.got-is ∙ l) }

pub closed_is : (raw : Bool) (state : State) (out bytes' live' run' out' : List ℕ) (tray' : Tray) (desk' : Desk) (second at : ℕ)
    → Ended raw second state out 0 (state_of bytes' tray' desk' live' run') out' at → Closed raw state out bytes' live' run' out'
closed_is raw state out bytes' live' run' out' tray' desk' second at z = record { tray' = tray'; desk' = desk'; at' = at; second' = second; ends = z }

-- ---- from read to read

pub record Preparing (raw : Bool) (start : State) (out₀ bytes live run log out : List ℕ) (turn : Turn) (turns : ℕ) : Type 0 where
  pub prepared : Prepared bytes turn.tray turn.desk live run log
  pub portions : List (List ℕ)
  pub reads : Reads raw start out₀ portions (state_of bytes turn.tray turn.desk live run) out
  pub goes_on : turn.more ≡ (ltb 0 turn.got && turn.is_written)
  pub spent : length portions + ((1 - turn.got) + turns) ≡ 2 ^ 64 - 1

read-on : {raw : Bool} {s s₁ s₂ : State} {o o₁ o₂ : List ℕ} {ps qs : List (List ℕ)} → Reads raw s o ps s₁ o₁ → Reads raw s₁ o₁ qs s₂ o₂ → Reads raw s o (ps ++ qs) s₂ o₂
read-on Reads.no_more r = r
read-on (Reads.a-portion second at z f) r = Reads.a-portion second at z (read-on f r)

-- a read is a portion, or nothing came
one-read : (portion : List ℕ) → length (some portion) + (1 - length portion) ≡ 1
one-read [] = refl
one-read (x ∷ xs) = omega arith

something : (got : ℕ) (w : Bool) → true ≡ (ltb 0 got && w) → 1 ≤ got
something zero w e = let z : false ≡ true = (rw (le-ltb 0 0 (omega arith)) at (sym e)) in let y : ◌≡◌ {A = ℕ} 0 1 = cc in absurd (omega arith)
something (suc n) w e = omega arith

module _ (raw : Bool) (desk : Desk) (first : Turn) (e : first ≡ record { tray = fresh_tray; desk = desk; got = 1; is_written = true; more = true }) where
  pub first-reading : (bytes live run log out : List ℕ) → Prepared bytes fresh_tray desk live run log
      → Preparing raw (state_of bytes first.tray first.desk live run) out bytes live run log out first 18446744073709551615
  first-reading bytes live run log out p = record {
    prepared = rw e p;
    portions = [];
    reads = Reads.no_more;
    goes_on = rw (e, lt-ltb 0 1 (omega arith));
    spent = rw e (omega arith);
  }

  module _ (bytes₀ live₀ run₀ log₀ out₀ bytes live run log out : List ℕ) (turn : Turn) (turns : ℕ)
      (t : Turning (Preparing raw (state_of bytes₀ first.tray first.desk live₀ run₀) out₀ bytes live run log out turn turns) bytes₀ live₀ run₀ log₀ out₀ bytes live run log out)
      (bytes₂ live₂ run₂ out₂ : List ℕ) (c : Closed raw (state_of bytes turn.tray turn.desk live run) out bytes₂ live₂ run₂ out₂)
      (stop : Stop) (q : stop ≡ record { got = turn.got; is_written = turn.is_written; turns = turns }) where
    all_read : (stop.got ≡ 0) ⊎ ((stop.is_written ≡ false) ⊎ (stop.turns ≡ 0)) → AllTold raw (state_of bytes₀ fresh_tray desk live₀ run₀) out₀ bytes₂ live₂ run₂ out₂ stop
    all_read s = record {
      portions = t.holds.portions;
      state₁ = state_of bytes turn.tray turn.desk live run;
      out₁ = out;
      reads = rw e at t.holds.reads;
      closes = c;
      stops = s;
      spent = rw q t.holds.spent;
    }

    pub turns-over : turns ≡ 0 → AllTold raw (state_of bytes₀ fresh_tray desk live₀ run₀) out₀ bytes₂ live₂ run₂ out₂ stop
    turns-over z = all_read (inr (inr (ap (λ s. s.turns) q ∙ z)))

    pub reads_over : not turn.more ≡ true → AllTold raw (state_of bytes₀ fresh_tray desk live₀ run₀) out₀ bytes₂ live₂ run₂ out₂ stop
    reads_over n = all_read (rw q (which turn.got turn.is_written (sym t.holds.goes_on ∙ not-true turn.more n)))
      where
        which : (got : ℕ) (w : Bool) → (ltb 0 got && w) ≡ false → (got ≡ 0) ⊎ ((w ≡ false) ⊎ (turns ≡ 0))
        which zero w q = inl refl
        which (suc n) w q = inr (inl (rw (lt-ltb 0 (suc n) (omega arith)) at q))

module _ (raw : Bool) (start : State) (bytes₀ live₀ run₀ log₀ out₀ bytes live run log out : List ℕ) (turn : Turn) (turns : ℕ)
    (t : Turning (Preparing raw start out₀ bytes live run log out turn turns) bytes₀ live₀ run₀ log₀ out₀ bytes live run log out) (left : turns ≡ 0 → ⊥) (n : not turn.more ≡ false)
    (bytes' live' run' log' input' out' : List ℕ) (turn' : Turn)
    (z : Came raw (state_of bytes turn.tray turn.desk live run) out (take turn'.got input') (state_of bytes' turn'.tray turn'.desk live' run') out' turn')
    (p : Prepared bytes' turn'.tray turn'.desk live' run' log') where
  read-preparing : Preparing raw start out₀ bytes' live' run' log' out' turn' (turns - 1)
  read-preparing = record {
    prepared = p;
    portions = t.holds.portions ++ some (take turn'.got input');
    reads = read-on t.holds.reads z.reads;
    goes_on = z.goes_on;
    spent =
        let a = length-append t.holds.portions (some (take turn'.got input')) in
        let b = one-read (take turn'.got input') in
        let d = z.got-is in
        let k = t.holds.spent in
        let s = something turn.got turn.is_written (sym (not-false turn.more n) ∙ t.holds.goes_on) in
        let m : 0 < turns = pos_of_ne-zero left in
        omega arith;
  }

  pub next-read : length bytes' ≡ length bytes → length live' ≡ length live → length run' ≡ length run → length log' ≡ length log → length out' ≡ length out
      → Turning (Preparing raw start out₀ bytes' live' run' log' out' turn' (turns - 1)) bytes₀ live₀ run₀ log₀ out₀ bytes' live' run' log' out'
  next-read b l r g o = next-turn bytes₀ live₀ run₀ log₀ out₀ bytes live run log out bytes' live' run' log' out' _ t b l r g o read-preparing

-- ---- what is wanted

pub ran-is : (desk : Desk) (raw : Bool) (stop : Stop) (out bytes₂ live₂ run₂ out₂ : List ℕ) → log_room ≡ length out
    → AllTold raw (state_of (replicate longest_frame 0) fresh_tray desk (replicate book_bytes 0) (replicate book_bytes 0)) out bytes₂ live₂ run₂ out₂ stop → Ran desk raw stop
ran-is desk raw stop out bytes₂ live₂ run₂ out₂ h a =
    record { out = out; out-room = omega arith; bytes₂ = bytes₂; live₂ = live₂; run₂ = run₂; out₂ = out₂; all_told = a }

module _ (wanted : Wanted) (j : Job) (e : j ≡ job_of wanted) where
  pub does-run : (desk : Desk) (raw : Bool) (stop : Stop) → j ≡ Some (record { desk = desk; raw = raw }) → Ran desk raw stop → Does (job_of wanted) (Some stop)
  does-run desk raw stop q r = rw (← e, q) (Does.runs r)

  pub does-usage : j ≡ None → Does (job_of wanted) None
  does-usage q = rw (← e, q) Does.says-usage
