-- Definitions to believe: how a stream is prepared: each portion is handed over until the call says hungry, or until all of it is used, and then finish is called until it says done.
-- Each call is lent a log of its own choice, and handed a second; the call that tells frame i is handed that frame's.
use Rattle.std.specs.Prelude.{◌≡◌, true, List, [], ◌∷◌, ℕ, suc, ◌≤◌, length, take, drop}
use Rattle.stream.specs.declared.Tray.{Tray}
use Rattle.stream.specs.Tray.{fresh_tray, bytes_of}
use Rattle.stream.specs.Driver.{Caller, GoesOn}
use Rattle.sizes.specs.Sizes.{book_bytes, log_room}
use Rattle.desk.specs.Desk.{desk_sound}
use Rattle.desk.specs.History.{Held}
use Rattle.prepare.specs.declared.Said.{Said}
use Rattle.prepare.specs.declared.Said.TheVariants as said
use Rattle.prepare.specs.declared.Answer.{Answer}
use Rattle.prepare.specs.Uncut.{Told, accepted, refused, noise, Seconds}
use Rattle.prepare.specs.Prepare.{Handed, call_outcome, finish_outcome, answer_of, books_of, log_of}

-- all that is kept from call to call: the tray and its bytes, the desk and the bytes of both books
pub record State : Type 0 where
  pub bytes : List ℕ
  pub tray : Tray
  pub books : Held

-- a desk that a call takes: its books have room, and it is sound
pub record Sound (books : Held) : Type 0 where
  pub live-room : book_bytes ≤ length books.live
  pub run_room : book_bytes ≤ length books.run
  pub is-sound : desk_sound books.desk books.live books.run ≡ true

-- what a call is lent and handed beside it: a log and the second
pub record Lent : Type 0 where
  pub log : List ℕ
  pub second : ℕ

-- ---- a call and finish, of the whole state

abbrev pub lent : State → Lent → Handed
lent s given = record { bytes = s.bytes; tray = s.tray; books = s.books; log = given.log; second = given.second }

module _ (s : State) (given : Lent) where
  module _ (input : List ℕ) where
    abbrev pub call_says : Answer
    call_says = answer_of (lent s given) (call_outcome (lent s given) input)

    abbrev pub call_leaves : State
    call_leaves = record {
      bytes = bytes_of s.bytes (call_outcome (lent s given) input);
      tray = call_says.tray;
      books = books_of (lent s given) (call_outcome (lent s given) input);
    }

    abbrev pub call_logs : List ℕ
    call_logs = log_of (lent s given) (call_outcome (lent s given) input)

  abbrev pub finish_says : Answer
  finish_says = answer_of (lent s given) (finish_outcome (lent s given))

  abbrev pub finish_leaves : State
  finish_leaves = record {
    bytes = bytes_of s.bytes (finish_outcome (lent s given));
    tray = finish_says.tray;
    books = books_of (lent s given) (finish_outcome (lent s given));
  }

  abbrev pub finish_logs : List ℕ
  finish_logs = log_of (lent s given) (finish_outcome (lent s given))

-- what is told by what a call says: a frame lies first among the tray's bytes afterwards, and so many bytes of entries first in the log
abbrev pub Tells : Said → (written : ℕ) → (bytes log : List ℕ) → Told → Type 0
Tells (said.Accepted header) written bytes log told = told ≡ accepted header (take header.length bytes) (take written log)
Tells (said.FrameRefused header why) written bytes log told = told ≡ refused header (take header.length bytes) why
Tells (said.Noise count) written bytes log told = told ≡ noise count
Tells said.Hungry written bytes log told = ⊥
Tells said.Done written bytes log told = ⊥
Tells (said.Refused why) written bytes log told = ⊥

-- the call that tells a frame is handed the first of the seconds; one that tells noise any
abbrev pub InTime : Told → (second : ℕ) → Seconds → Type 0
InTime (accepted header bytes entries) second seconds = second ≡ seconds 0
InTime (refused header bytes why) second seconds = second ≡ seconds 0
InTime (noise count) second seconds = Unit {0}

-- the seconds of the frames behind it
abbrev pub later_by : Told → Seconds → Seconds
later_by (accepted header bytes entries) seconds = λ i. seconds (suc i)
later_by (refused header bytes why) seconds = λ i. seconds (suc i)
later_by (noise count) seconds = seconds

unfoldable pub later_all : List Told → Seconds → Seconds
later_all [] seconds = seconds
later_all (told ∷ rest) seconds = later_all rest (later_by told seconds)

-- one more for a frame
abbrev pub counting : Told → ℕ → ℕ
counting (accepted header bytes entries) more = suc more
counting (refused header bytes why) more = suc more
counting (noise count) more = more

-- how many frames were told
unfoldable pub frames_in : List Told → ℕ
frames_in [] = 0
frames_in (told ∷ rest) = counting told (frames_in rest)

-- `Feeds caller seconds s portions told s₁`: the calls on the portions tell this, each frame at its second, and leave that state; as the stream's
pub data Feeds (c : Caller) : Seconds → State → List (List ℕ) → List Told → State → Type 0 where
  no_more : {seconds : Seconds} {s : State} → Feeds c seconds s [] [] s
  an-event : {seconds : Seconds} {s s₁ : State} {p : List ℕ} {ps : List (List ℕ)} {t : Told} {ts : List Told} (given : Lent) → log_room ≤ length given.log
      → Tells (call_says s given p).said (call_says s given p).log (call_leaves s given p).bytes (call_logs s given p) t → InTime t given.second seconds
      → Feeds c (later_by t seconds) (call_leaves s given p) (drop (call_says s given p).used p ∷ ps) ts s₁
      → Feeds c seconds s (p ∷ ps) (t ∷ ts) s₁
  all-used : {seconds : Seconds} {s s₁ : State} {p : List ℕ} {ps : List (List ℕ)} {ts : List Told} (given : Lent) → log_room ≤ length given.log
      → (call_says s given p).said ≡ said.Hungry
      → Feeds c seconds (call_leaves s given p) ps ts s₁
      → Feeds c seconds s (p ∷ ps) ts s₁
  passed_over : {seconds : Seconds} {s s₁ : State} {ps : List (List ℕ)} {ts : List Told} → GoesOn c → Feeds c seconds s ps ts s₁ → Feeds c seconds s ([] ∷ ps) ts s₁

-- `Closes seconds s told s₁`: finish, called until it says done, tells this and leaves that state
pub data Closes : Seconds → State → List Told → State → Type 0 where
  an-event : {seconds : Seconds} {s s₁ : State} {t : Told} {ts : List Told} (given : Lent) → log_room ≤ length given.log
      → Tells (finish_says s given).said (finish_says s given).log (finish_leaves s given).bytes (finish_logs s given) t → InTime t given.second seconds
      → Closes (later_by t seconds) (finish_leaves s given) ts s₁
      → Closes seconds s (t ∷ ts) s₁
  is-done : {seconds : Seconds} {s : State} (given : Lent) → log_room ≤ length given.log → (finish_says s given).said ≡ said.Done → Closes seconds s [] (finish_leaves s given)

-- the start: a fresh tray, its bytes, and a desk with its books
abbrev pub start : (bytes : List ℕ) → Held → State
start bytes books = record { bytes = bytes; tray = fresh_tray; books = books }

-- a whole stream in these portions, its frames at these seconds: what is told before finish and at finish, with the state before finish and at the end
pub record Whole (c : Caller) (seconds : Seconds) (bytes : List ℕ) (books : Held) (portions : List (List ℕ)) : Type 0 where
  pub before : List Told
  pub between : State
  pub feeds : Feeds c seconds (start bytes books) portions before between
  pub after : List Told
  pub end : State
  pub closes : Closes (later_all before seconds) between after end
