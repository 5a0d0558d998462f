-- What the functions of `runlog` say of each other besides what is told (Telling.antt). Serves proofs.
use Rattle.std.specs.Prelude.{◌≡◌, Bool, true, false, List, [], ℕ, ◌+◌, ◌≤◌, ◌<◌, ◌^◌, length, take, drop, Ok}
use Rattle.text.specs.Text.{waiting, say_all}
use Rattle.stream.specs.declared.Tray.{Tray}
use Rattle.stream.specs.Driver.{Ready}
use Rattle.stream.specs.Driving.{left}
use Rattle.desk.specs.declared.Desk.{Desk}
use Rattle.desk.specs.Desk.{new_desk}
use Rattle.sizes.specs.Sizes.{log_room}
use Rattle.prepare.specs.declared.Answer.{Answer}
use Rattle.prepare.specs.declared.Said.{Said}
use Rattle.prepare.specs.declared.Said.TheVariants as said
use Rattle.prepare.specs.Prepare.{books_in, hands, results, by_call, by_finish}
use Rattle.prepare.specs.Driver.{State, Sound}
use Rattle.runlog.specs.declared.hearing.Heard.{Heard}
use Rattle.runlog.specs.Telling.{state_of, texts_for, Told, Ended}

-- a frame, taken or refused, and noise
abbrev pub is_event : Said → Bool
is_event (said.Accepted header) = true
is_event (said.FrameRefused header why) = true
is_event (said.Noise count) = true
is_event said.Hungry = false
is_event said.Done = false
is_event (said.Refused why) = false

-- a tray, a desk and buffers that no call refuses
pub record Prepared (bytes : List ℕ) (tray : Tray) (desk : Desk) (live run log : List ℕ) : Type 0 where
  pub tray-ready : Ready bytes tray
  pub books-sound : Sound (books_in desk live run)
  pub log-room : log_room ≤ length log

-- so many bytes are used of a portion, and what it has is a number of the machine
pub record Within (used room : ℕ) : Type 0 where
  pub inside : used ≤ room
  pub fits : room < 2 ^ 64

-- `Prepared`, with so many bytes used of a portion
pub record Hearing (bytes : List ℕ) (tray : Tray) (desk : Desk) (live run log : List ℕ) (used room : ℕ) : Type 0 where
  pub prepared : Prepared bytes tray desk live run log
  pub within : Within used room

-- what a call or a finish leaves, with so many events to tell before and after it
pub record Step (before : ℕ) (bytes : List ℕ) (tray : Tray) (desk : Desk) (live run log : List ℕ) (more : Bool) (after : ℕ) : Type 0 where
  pub prepared : Prepared bytes tray desk live run log
  pub fewer : more ≡ true → after < before

-- a desk as it is made
pub record IsNew (desk : Desk) : Type 0 where
  pub solution : ℕ
  pub processor : ℕ
  pub constellation : ℕ
  pub is_made : new_desk solution processor constellation ≡ Ok desk

-- how many events are left to tell of a tray and the rest of a portion, and at the end
abbrev pub to_tell : (bytes : List ℕ) → Tray → (used : ℕ) → (portion : List ℕ) → ℕ
to_tell bytes tray used portion = length (left bytes tray (drop used portion))

abbrev pub last_to_tell : (bytes : List ℕ) → Tray → ℕ
last_to_tell bytes tray = length (left bytes tray [])

-- where the preparing stands once an answer is told, where so many bytes of the portion were used before
abbrev pub heard_of : (used : ℕ) → Answer → (at : ℕ) → Heard
heard_of used answer at =
    record { tray = answer.tray; desk = answer.desk; used = used + answer.used; at = at; more = is_event answer.said }

-- what a call on the rest of a portion answers and leaves
pub record Called (second : ℕ) (bytes : List ℕ) (tray : Tray) (desk : Desk) (live run log portion : List ℕ) (used : ℕ) (answer : Answer) (bytes' live' run' log' : List ℕ) : Type 0 where
  pub prepared : Prepared bytes tray desk live run log
  pub step :
      Step (to_tell bytes tray used portion) bytes' answer.tray answer.desk live' run' log' (is_event answer.said) (to_tell bytes' answer.tray (used + answer.used) portion)
  pub entries_fit : answer.log ≤ length log'
  pub within : Within (used + answer.used) (length portion)
  pub results-are : results answer bytes' live' run' log' ≡ by_call (hands bytes tray desk live run log second) (drop used portion)

-- and what a finish does
pub record Finished (second : ℕ) (bytes : List ℕ) (tray : Tray) (desk : Desk) (live run log : List ℕ) (answer : Answer) (bytes' live' run' log' : List ℕ) : Type 0 where
  pub prepared : Prepared bytes tray desk live run log
  pub used-fits : 0 + answer.used < 2 ^ 64
  pub step : Step (last_to_tell bytes tray) bytes' answer.tray answer.desk live' run' log' (is_event answer.said) (last_to_tell bytes' answer.tray)
  pub entries_fit : answer.log ≤ length log'
  pub results-are : results answer bytes' live' run' log' ≡ by_finish (hands bytes tray desk live run log second)

-- an answer that is told: the entries that were written are said
pub record Spoken (used : ℕ) (answer : Answer) (log : List ℕ) (raw : Bool) (out : List ℕ) (at : ℕ) (out' : List ℕ) (heard : Heard) : Type 0 where
  pub heard-is : heard ≡ heard_of used answer heard.at
  pub says : waiting out' heard.at ≡ say_all (waiting out at) (texts_for raw (take answer.log log))

-- One call: if there is more, what is told of the rest is told behind it; else all is told.
pub record Onward (raw : Bool) (second : ℕ) (state : State) (out : List ℕ) (at : ℕ) (input : List ℕ) (state' : State) (out' : List ℕ) (at' : ℕ) (rest : List ℕ) (more : Bool) : Type 0 where
  pub goes : more ≡ true → (s : State) (o : List ℕ) (a : ℕ) → Told raw second state' out' at' rest s o a → Told raw second state out at input s o a
  pub stops : more ≡ false → Told raw second state out at input state' out' at'

-- One finish, in the same way.
pub record Nearer (raw : Bool) (second : ℕ) (state : State) (out : List ℕ) (at : ℕ) (state' : State) (out' : List ℕ) (at' : ℕ) (more : Bool) : Type 0 where
  pub goes : more ≡ true → (s : State) (o : List ℕ) (a : ℕ) → Ended raw second state' out' at' s o a → Ended raw second state out at s o a
  pub stops : more ≡ false → Ended raw second state out at state' out' at'

-- a call, or a finish, that is told
pub record Advanced (raw : Bool) (second : ℕ) (bytes : List ℕ) (was : Heard) (live run portion out bytes' : List ℕ) (heard : Heard) (live' run' log' out' : List ℕ) : Type 0 where
  pub step :
      Step (to_tell bytes was.tray was.used portion) bytes' heard.tray heard.desk live' run' log' heard.more (to_tell bytes' heard.tray heard.used portion)
  pub within : Within heard.used (length portion)
  pub onward :
      Onward raw second (state_of bytes was.tray was.desk live run) out was.at (drop was.used portion)
      (state_of bytes' heard.tray heard.desk live' run') out' heard.at (drop heard.used portion) heard.more

pub record Neared (raw : Bool) (second : ℕ) (bytes : List ℕ) (was : Heard) (live run out bytes' : List ℕ) (heard : Heard) (live' run' log' out' : List ℕ) : Type 0 where
  pub step : Step (last_to_tell bytes was.tray) bytes' heard.tray heard.desk live' run' log' heard.more (last_to_tell bytes' heard.tray)
  pub nearer :
      Nearer raw second (state_of bytes was.tray was.desk live run) out was.at (state_of bytes' heard.tray heard.desk live' run') out' heard.at heard.more
