-- Definitions to believe: what the program tells. Lines are said as `text::say` says them: they wait in the output's buffer, and go out when it is full and before the next read.
use Rattle.std.specs.Prelude.{◌≡◌, false, ◌&&◌, ◌⊎◌, List, [], ◌∷◌, ◌++◌, ℕ, zero, suc, ◌+◌, ◌-◌, ◌^◌, ltb, length}
use Rattle.text.specs.Text.{waiting, say_all}
use Rattle.stream.specs.declared.Tray.{Tray}
use Rattle.stream.specs.Scan.{Event}
use Rattle.stream.specs.Tray.{fresh_tray}
use Rattle.stream.specs.Driver.{waits, Feeds, Closes}
use Rattle.listen.specs.declared.Turn.{Turn}
use Rattle.listen.specs.declared.Stop.{Stop}
use Rattle.listen.specs.Lines.{lines_of, end_line}

-- A portion is told until the stream is hungry: the events that its calls tell, a line each.
pub record Told (bytes : List ℕ) (tray : Tray) (out : List ℕ) (at : ℕ) (portion : List ℕ) (bytes' : List ℕ) (tray' : Tray) (out' : List ℕ) (at' : ℕ) : Type 0 where
  pub events : List Event
  pub feeds : Feeds waits bytes tray (portion ∷ []) events bytes' tray'
  pub says : waiting out' at' ≡ say_all (waiting out at) (lines_of events)

-- The stream's end is told until done, a line for each event, and lastly `end`.
pub record Ended (bytes : List ℕ) (tray : Tray) (out : List ℕ) (at : ℕ) (bytes' : List ℕ) (tray' : Tray) (out' : List ℕ) (at' : ℕ) : Type 0 where
  pub events : List Event
  pub closes : Closes bytes tray events bytes' tray'
  pub says : waiting out' at' ≡ say_all (waiting out at) (lines_of events ++ (end_line ∷ []))

-- Portion after portion; what waits goes out behind each.
pub data Reads : List ℕ → Tray → List ℕ → List (List ℕ) → List ℕ → Tray → List ℕ → Type 0 where
  no_more : {b : List ℕ} {t : Tray} {o : List ℕ} → Reads b t o [] b t o
  a-portion : {b b₁ b₂ : List ℕ} {t t₁ t₂ : Tray} {o o₁ o₂ : List ℕ} {p : List ℕ} {ps : List (List ℕ)} (at : ℕ)
      → Told b t o 0 p b₁ t₁ o₁ at → Reads b₁ t₁ o₁ ps b₂ t₂ o₂ → Reads b t o (p ∷ ps) b₂ t₂ o₂

-- what came with a read is a portion, but nothing is none
abbrev pub came : (portion : List ℕ) → List (List ℕ)
came [] = []
came (x ∷ xs) = (x ∷ xs) ∷ []

-- A read is told. It goes on where something came and the lines went out.
pub record Came (bytes : List ℕ) (tray : Tray) (out portion bytes' out' : List ℕ) (turn : Turn) : Type 0 where
  pub reads : Reads bytes tray out (came portion) bytes' turn.tray out'
  pub got-is : turn.got ≡ length portion
  pub goes_on : turn.more ≡ (ltb 0 turn.got && turn.is_written)

-- one for a read with which nothing came
abbrev pub nothing : (got : ℕ) → ℕ
nothing zero = 1
nothing (suc n) = 0

-- The stream's end is told, from an empty buffer on.
pub record Closed (bytes : List ℕ) (tray : Tray) (out bytes' out' : List ℕ) : Type 0 where
  pub tray' : Tray
  pub at' : ℕ
  pub ends : Ended bytes tray out 0 bytes' tray' out' at'

-- The whole stream is told: its portions, and then its end. The program reads until nothing comes, lines no longer go out, or its 2^64 - 1 turns are used up.
pub record Listened (bytes out bytes₂ out₂ : List ℕ) (stop : Stop) : Type 0 where
  pub portions : List (List ℕ)
  pub bytes₁ : List ℕ
  pub tray₁ : Tray
  pub out₁ : List ℕ
  pub reads : Reads bytes fresh_tray out portions bytes₁ tray₁ out₁
  pub closes : Closed bytes₁ tray₁ out₁ bytes₂ out₂
  pub stops : (stop.got ≡ 0) ⊎ ((stop.is_written ≡ false) ⊎ (stop.turns ≡ 0))
  pub spent : length portions + (nothing stop.got + stop.turns) ≡ 2 ^ 64 - 1
