-- Mirror: what the steps of a call of `prepare` leave. Serves proofs.
use Rattle.std.specs.Prelude.{◌≡◌, Bool, List, ℕ, ◌≤◌, length}
use Rattle.export.specs.Numbers.{laid}
use Rattle.export.specs.Frames.{header_room}
use Rattle.export.specs.Streams.{tray_room, tray_of}
use Rattle.prepare.specs.declared.Answer.{Answer}
use Rattle.exportdesk.specs.States.{desk_room, desk_of}
use Rattle.exportprepare.specs.Prepares.{told_room, lacks_room, told_answer, state_said, header_said}

-- whether one of the slices of numbers is short
pub record Judged (answer : Bool) (tray desk told header : List ℕ) : Type 0 where
  pub is-judged : answer ≡ lacks_room tray desk told header

-- the slices of numbers have their rooms: of both states, and of all four
pub record StatesThere (tray desk : List ℕ) : Type 0 where
  pub tray-room : tray_room ≤ length tray
  pub desk-room : desk_room ≤ length desk

pub record AllThere (tray desk told header : List ℕ) : Type 0 where
  pub tray-room : tray_room ≤ length tray
  pub desk-room : desk_room ≤ length desk
  pub told-room : told_room ≤ length told
  pub header-room : header_room ≤ length header

-- the number, and the slices of numbers, are these
pub record Puts (answer : Answer) (tray desk told header : List ℕ) (number : ℕ) (tray' desk' told' header' : List ℕ) : Type 0 where
  pub number_is : number ≡ (told_answer answer).number
  pub tray-is : tray' ≡ laid (state_said answer.said (tray_of answer.tray)) tray
  pub desk-is : desk' ≡ laid (state_said answer.said (desk_of answer.desk)) desk
  pub told_is : told' ≡ laid (told_answer answer).numbers told
  pub header_is : header' ≡ laid (header_said answer.said) header
