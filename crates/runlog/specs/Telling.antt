-- Definitions to believe: what the program tells of a stream. Its log is said as `text::say` says a text: it waits in the output's buffer, and goes out when that is full and
-- before the next read. In the raw form the bytes said are the entries as they were written; in words the lines are crate `words`'.
use Rattle.std.specs.Prelude.{◌≡◌, Bool, true, false, List, [], ◌∷◌, ◌++◌, ℕ}
use Rattle.text.specs.Text.{waiting, say_all}
use Rattle.words.specs.Log.{texts_of_log}
use Rattle.stream.specs.declared.Tray.{Tray}
use Rattle.stream.specs.Driver.{waits}
use Rattle.desk.specs.declared.Desk.{Desk}
use Rattle.prepare.specs.Uncut as uncut
use Rattle.prepare.specs.Uncut.{Seconds, entries_of}
use Rattle.prepare.specs.Prepare.{books_in}
use Rattle.prepare.specs.Driver.{State, Feeds, Closes}

-- a tray and a desk with their bytes
abbrev pub state_of : (bytes : List ℕ) → Tray → Desk → (live run : List ℕ) → State
state_of bytes tray desk live run = record { bytes = bytes; tray = tray; books = books_in desk live run }

-- bytes, if there are any: entries that are said, or a portion that came
abbrev pub some : (bytes : List ℕ) → List (List ℕ)
some [] = []
some (x ∷ xs) = (x ∷ xs) ∷ []

-- the texts of a log: its own bytes, or the lines of its entries
abbrev pub texts_for : (raw : Bool) → (log : List ℕ) → List (List ℕ)
texts_for true log = some log
texts_for false log = texts_of_log log

-- those of each event
unfoldable pub logs_of : (raw : Bool) → List uncut.Told → List (List ℕ)
logs_of raw [] = []
logs_of raw (told ∷ rest) = texts_for raw (entries_of told) ++ logs_of raw rest

-- every frame at the same second
abbrev pub always : (second : ℕ) → Seconds
always second = λ i. second

-- A portion is told until hungry: what its calls tell, each frame at the second at which the portion was read, and the entries that they write are said.
pub record Told (raw : Bool) (second : ℕ) (state : State) (out : List ℕ) (at : ℕ) (portion : List ℕ) (state' : State) (out' : List ℕ) (at' : ℕ) : Type 0 where
  pub told : List uncut.Told
  pub feeds : Feeds waits (always second) state (portion ∷ []) told state'
  pub says : waiting out' at' ≡ say_all (waiting out at) (logs_of raw told)

-- The stream's end is told until done, in the same way.
pub record Ended (raw : Bool) (second : ℕ) (state : State) (out : List ℕ) (at : ℕ) (state' : State) (out' : List ℕ) (at' : ℕ) : Type 0 where
  pub told : List uncut.Told
  pub closes : Closes (always second) state told state'
  pub says : waiting out' at' ≡ say_all (waiting out at) (logs_of raw told)
