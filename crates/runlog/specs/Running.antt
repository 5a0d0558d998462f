-- Definitions to believe: what the program does. It reads until nothing comes, the log no longer goes out, or its 2^64 - 1 turns are used up, tells each portion that came, and
-- then the stream's end (Telling.antt). Each portion, and the end, is told at the second that /proc/uptime gives then (Clock.antt); of which second that is nothing is
-- promised.
use Rattle.std.specs.Prelude.{◌≡◌, Bool, false, ◌&&◌, ◌⊎◌, List, [], ◌∷◌, ◌++◌, ℕ, ◌+◌, ◌-◌, ◌≤◌, ◌^◌, ltb, length, replicate, Some, None}
use Rattle.sizes.specs.Sizes.{longest_frame, book_bytes, log_room}
use Rattle.stream.specs.declared.Tray.{Tray}
use Rattle.stream.specs.Tray.{fresh_tray}
use Rattle.desk.specs.declared.Desk.{Desk}
use Rattle.prepare.specs.Uncut as uncut
use Rattle.prepare.specs.Uncut.{Seconds}
use Rattle.prepare.specs.Driver.{State}
use Rattle.prepare.specs.Lender.{all_then}
use Rattle.runlog.specs.declared.hearing.Turn.{Turn}
use Rattle.runlog.specs.declared.hearing.Stop.{Stop}
use Rattle.runlog.specs.Results.{Job}
use Rattle.runlog.specs.Results.{Done}
use Rattle.runlog.specs.Telling.{state_of, some, always, Told, Ended}

-- Portion after portion, each at the second at which it was read; what waits goes out behind each.
pub data Reads (raw : Bool) : State → List ℕ → List (List ℕ) → State → List ℕ → Type 0 where
  no_more : {s : State} {o : List ℕ} → Reads raw s o [] s o
  a-portion : {s s₁ s₂ : State} {o o₁ o₂ p : List ℕ} {ps : List (List ℕ)} (second at : ℕ) → Told raw second s o 0 p s₁ o₁ at → Reads raw s₁ o₁ ps s₂ o₂ → Reads raw s o (p ∷ ps) s₂ o₂

-- what is told of all portions
unfoldable pub told_in : {raw : Bool} {s s₁ : State} {o o₁ : List ℕ} {ps : List (List ℕ)} → Reads raw s o ps s₁ o₁ → List uncut.Told
told_in Reads.no_more = []
told_in (Reads.a-portion second at told rest) = told.told ++ told_in rest

-- the seconds of the frames told, each that of the portion on which it was told, and then those behind them
unfoldable pub seconds_in : {raw : Bool} {s s₁ : State} {o o₁ : List ℕ} {ps : List (List ℕ)} → Reads raw s o ps s₁ o₁ → (behind : Seconds) → Seconds
seconds_in Reads.no_more behind = behind
seconds_in (Reads.a-portion second at told rest) behind = all_then told.told second (seconds_in rest behind)

-- A read is told, if something came. It goes on where something came and the log went out.
pub record Came (raw : Bool) (state : State) (out portion : List ℕ) (state' : State) (out' : List ℕ) (turn : Turn) : Type 0 where
  pub reads : Reads raw state out (some portion) state' out'
  pub got-is : turn.got ≡ length portion
  pub goes_on : turn.more ≡ (ltb 0 turn.got && turn.is_written)

-- The stream's end is told until done, from an empty buffer on.
pub record Closed (raw : Bool) (state : State) (out bytes' live' run' out' : List ℕ) : Type 0 where
  pub tray' : Tray
  pub desk' : Desk
  pub at' : ℕ
  pub second' : ℕ
  pub ends : Ended raw second' state out 0 (state_of bytes' tray' desk' live' run') out' at'

-- The whole stream is told: its portions, and then its end. Each turn is a portion, but for the one with which nothing came.
pub record AllTold (raw : Bool) (state : State) (out bytes₂ live₂ run₂ out₂ : List ℕ) (stop : Stop) : Type 0 where
  pub portions : List (List ℕ)
  pub state₁ : State
  pub out₁ : List ℕ
  pub reads : Reads raw state out portions state₁ out₁
  pub closes : Closed raw state₁ out₁ bytes₂ live₂ run₂ out₂
  pub stops : (stop.got ≡ 0) ⊎ ((stop.is_written ≡ false) ⊎ (stop.turns ≡ 0))
  pub spent : length portions + ((1 - stop.got) + stop.turns) ≡ 2 ^ 64 - 1

-- the seconds of its frames: those told of a portion have the portion's, those told at the end the end's
abbrev pub seconds_of : {raw : Bool} {state : State} {out bytes₂ live₂ run₂ out₂ : List ℕ} {stop : Stop} → AllTold raw state out bytes₂ live₂ run₂ out₂ stop → Seconds
seconds_of a = seconds_in a.reads (always a.closes.second')

-- a desk at the start: a fresh tray, and two books of zeros
abbrev pub at_start : Desk → State
at_start desk = state_of (replicate longest_frame 0) fresh_tray desk (replicate book_bytes 0) (replicate book_bytes 0)

-- A desk runs over all that comes. The output's buffer has room for a frame's log.
pub record Ran (desk : Desk) (raw : Bool) (stop : Stop) : Type 0 where
  pub out : List ℕ
  pub out-room : log_room ≤ length out
  pub bytes₂ : List ℕ
  pub live₂ : List ℕ
  pub run₂ : List ℕ
  pub out₂ : List ℕ
  pub all_told : AllTold raw (at_start desk) out bytes₂ live₂ run₂ out₂ stop

-- The desk that is wanted runs; if there is none, the usage is to be said.
pub data Does : Job → Done → Type 0 where
  runs : {desk : Desk} {raw : Bool} {stop : Stop} → Ran desk raw stop → Does (Some (record { desk = desk; raw = raw })) (Some stop)
  says-usage : Does None None
