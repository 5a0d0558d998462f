-- Definitions to believe: how a caller in another language prepares a stream. Each call is lent what the last one left, and all that the caller learns of a call it
-- reads from the number that is returned and from the slices afterwards. Each call is handed a second; the call by which frame i is heard is handed that frame's.
use Rattle.std.specs.Prelude.{◌≡◌, List, [], ◌∷◌, ◌++◌, ℕ, suc, ◌≤◌, length, get_or, take, drop}
use Rattle.answer.specs.Number.{number_of}
use Rattle.answer.specs.Place.{sf_in, at_in}
use Rattle.sizes.specs.Sizes.{log_room}
use Rattle.stream.specs.Driver.{Clear, Caller, GoesOn}
use Rattle.desk.specs.History.{Held}
use Rattle.prepare.specs.Uncut as uncut
use Rattle.prepare.specs.Uncut.{Seconds}
use Rattle.export.specs.Numbers.{laid}
use Rattle.export.specs.Frames.{header_room, header_of}
use Rattle.export.specs.Streams.{tray_room}
use Rattle.exportdesk.specs.States.{desk_of}
use Rattle.exportdesk.specs.Desks.{sound_of}
use Rattle.exportprepare.specs.Prepares.{Lent, lends, told_room, handed_in, call_number, call_leaves, finish_number, finish_leaves}

-- ---- what is heard of an event: of a frame the numbers of its header, its bytes, the number that the desk gave it (0: taken) and its place (0 and 0: none), and the bytes of its entries

pub data Heard : Type 0 where
  frame : (header bytes : List ℕ) (number sf bit : ℕ) (entries : List ℕ) → Heard
  noise : (count : ℕ) → Heard

module _ (lent : Lent) where
  -- 0 hungry, 1 a frame, 2 noise, 3 done; and the bytes of the input used
  abbrev pub event_in : ℕ
  event_in = get_or lent.told 0 0

  abbrev pub used_in : ℕ
  used_in = get_or lent.told 1 0

  abbrev pub noise_in : Heard
  noise_in = noise (get_or lent.told 2 0)

  -- a frame lies first among the tray's bytes, as long as the first number of its header says, and its entries first in the log
  abbrev pub frame_in : Heard
  frame_in =
      frame (take header_room lent.header) (take (get_or lent.header 0 0) lent.bytes)
      (get_or lent.told 3 0) (get_or lent.told 5 0) (get_or lent.told 6 0) (take (get_or lent.told 4 0) lent.log)

pub data Hears (lent : Lent) : Heard → Type 0 where
  a-frame : event_in lent ≡ 1 → Hears lent (frame_in lent)
  some-noise : event_in lent ≡ 2 → Hears lent (noise_in lent)

-- the call by which a frame is heard is handed the first of the seconds, and those behind it are of the frames behind it; noise is heard at any (as in crate prepare)

abbrev pub InTime : Heard → (second : ℕ) → Seconds → Type 0
InTime (frame header bytes number sf bit entries) second seconds = second ≡ seconds 0
InTime (noise count) second seconds = Unit {0}

abbrev pub later_by : Heard → Seconds → Seconds
later_by (frame header bytes number sf bit entries) seconds = λ i. seconds (suc i)
later_by (noise count) seconds = seconds

unfoldable pub later_all : List Heard → Seconds → Seconds
later_all [] seconds = seconds
later_all (heard ∷ rest) seconds = later_all rest (later_by heard seconds)

-- one more for a frame
abbrev pub counting : Heard → ℕ → ℕ
counting (frame header bytes number sf bit entries) more = suc more
counting (noise count) more = more

-- how many frames were heard
unfoldable pub frames_in : List Heard → ℕ
frames_in [] = 0
frames_in (heard ∷ rest) = counting heard (frames_in rest)

-- ---- where only results are put: the log, the places for what is told, and those for a header. Between two calls other slices may be lent for them, and another
-- second handed

pub record Rooms (log told header : List ℕ) : Type 0 where
  pub log-room : log_room ≤ length log
  pub told-room : told_room ≤ length told
  pub header-room : header_room ≤ length header

abbrev pub lent_anew : Lent → (log told header : List ℕ) → (second : ℕ) → Lent
lent_anew lent log told header second = lends lent.bytes lent.tray lent.desk lent.live lent.run log told header second

-- ---- `Feeds caller seconds lent portions heard lent₁`: each portion is handed over until the call says hungry, or until all of it is used; `Closes seconds lent heard lent₁`:
-- then finish is called until it says done. Every number returned is 0.

pub data Feeds (c : Caller) : Seconds → Lent → List (List ℕ) → List Heard → Lent → Type 0 where
  no_more : {seconds : Seconds} {l : Lent} → Feeds c seconds l [] [] l
  an-event : {seconds : Seconds} {l l₁ : Lent} {p : List ℕ} {ps : List (List ℕ)} {h : Heard} {hs : List Heard} → call_number l p ≡ 0
      → Hears (call_leaves l p) h → InTime h l.second seconds
      → Feeds c (later_by h seconds) (call_leaves l p) (drop (used_in (call_leaves l p)) p ∷ ps) hs l₁
      → Feeds c seconds l (p ∷ ps) (h ∷ hs) l₁
  all-used : {seconds : Seconds} {l l₁ : Lent} {p : List ℕ} {ps : List (List ℕ)} {hs : List Heard} → call_number l p ≡ 0
      → event_in (call_leaves l p) ≡ 0
      → Feeds c seconds (call_leaves l p) ps hs l₁
      → Feeds c seconds l (p ∷ ps) hs l₁
  passed_over : {seconds : Seconds} {l l₁ : Lent} {ps : List (List ℕ)} {hs : List Heard} → GoesOn c → Feeds c seconds l ps hs l₁ → Feeds c seconds l ([] ∷ ps) hs l₁
  lent-anew : {seconds : Seconds} {l l₁ : Lent} {log told header : List ℕ} {second : ℕ} {ps : List (List ℕ)} {hs : List Heard} → Rooms log told header
      → Feeds c seconds (lent_anew l log told header second) ps hs l₁
      → Feeds c seconds l ps hs l₁

-- or each time as much as the caller likes of what is left of the stream, which goes on behind the bytes used
pub data FeedsStream : Seconds → Lent → (left : List ℕ) → List Heard → Lent → Type 0 where
  no_more : {seconds : Seconds} {l : Lent} → FeedsStream seconds l [] [] l
  an-event : {seconds : Seconds} {l l₁ : Lent} {left : List ℕ} {h : Heard} {hs : List Heard} (n : ℕ) → call_number l (take n left) ≡ 0
      → Hears (call_leaves l (take n left)) h → InTime h l.second seconds
      → FeedsStream (later_by h seconds) (call_leaves l (take n left)) (drop (used_in (call_leaves l (take n left))) left) hs l₁
      → FeedsStream seconds l left (h ∷ hs) l₁
  all-used : {seconds : Seconds} {l l₁ : Lent} {left : List ℕ} {hs : List Heard} (n : ℕ) → call_number l (take n left) ≡ 0
      → event_in (call_leaves l (take n left)) ≡ 0
      → FeedsStream seconds (call_leaves l (take n left)) (drop (used_in (call_leaves l (take n left))) left) hs l₁
      → FeedsStream seconds l left hs l₁
  lent-anew : {seconds : Seconds} {l l₁ : Lent} {log told header left : List ℕ} {second : ℕ} {hs : List Heard} → Rooms log told header
      → FeedsStream seconds (lent_anew l log told header second) left hs l₁
      → FeedsStream seconds l left hs l₁

pub data Closes : Seconds → Lent → List Heard → Lent → Type 0 where
  an-event : {seconds : Seconds} {l l₁ : Lent} {h : Heard} {hs : List Heard} → finish_number l ≡ 0
      → Hears (finish_leaves l) h → InTime h l.second seconds
      → Closes (later_by h seconds) (finish_leaves l) hs l₁
      → Closes seconds l (h ∷ hs) l₁
  is-done : {seconds : Seconds} {l : Lent} → finish_number l ≡ 0 → event_in (finish_leaves l) ≡ 3 → Closes seconds l [] (finish_leaves l)
  lent-anew : {seconds : Seconds} {l l₁ : Lent} {log told header : List ℕ} {second : ℕ} {hs : List Heard} → Rooms log told header
      → Closes seconds (lent_anew l log told header second) hs l₁ → Closes seconds l hs l₁

-- a whole stream in these portions, its frames at these seconds: what is heard before finish and at finish, with what is lent before finish and at the end
pub record Whole (c : Caller) (seconds : Seconds) (lent : Lent) (portions : List (List ℕ)) : Type 0 where
  pub before : List Heard
  pub between : Lent
  pub feeds : Feeds c seconds lent portions before between
  pub after : List Heard
  pub end : Lent
  pub closes : Closes (later_all before seconds) between after end

-- calls in any order, with any input
pub data Called (lent : Lent) : Lent → Type 0 where
  none_yet : Called lent lent
  a_call : {l : Lent} → Called lent l → (input : List ℕ) → Called lent (call_leaves l input)
  a-finish : {l : Lent} → Called lent l → Called lent (finish_leaves l)
  lent-anew : {l : Lent} {log told header : List ℕ} (second : ℕ) → Rooms log told header → Called lent l → Called lent (lent_anew l log told header second)

-- ---- the start: room in every slice, the numbers of a fresh tray with its bytes cleared, and a desk of which homralgyu_desk_is_sound says 0

pub record Starts (lent : Lent) : Type 0 where
  pub tray-fresh : take tray_room lent.tray ≡ 0 ∷ 0 ∷ 0 ∷ []
  pub bytes-clear : Clear lent.bytes
  pub desk-sound : sound_of lent.desk lent.live lent.run ≡ 0
  pub rooms : Rooms lent.log lent.told lent.header

-- the desk, as its numbers say it, and the bytes of its books
abbrev pub books_lent : Lent → Held
books_lent lent = (handed_in lent).books

-- ---- the end: the tray's numbers and bytes as they were lent, and the desk and its books these

pub record Ends (lent : Lent) (books : Held) (end : Lent) : Type 0 where
  pub tray-as-lent : end.tray ≡ lent.tray
  pub bytes-as-lent : end.bytes ≡ lent.bytes
  pub desk-is : end.desk ≡ laid (desk_of books.desk) lent.desk
  pub live-is : end.live ≡ books.live
  pub run_is : end.run ≡ books.run

-- ---- what document 01 lays down (`Told` of crate prepare), as it is heard

abbrev pub heard_of : uncut.Told → Heard
heard_of (uncut.accepted header bytes entries) = frame (header_of header) bytes 0 0 0 entries
heard_of (uncut.refused header bytes why) = frame (header_of header) bytes (number_of why.refusal) (sf_in why.place) (at_in why.place) []
heard_of (uncut.noise count) = noise count

unfoldable pub heard_all : List uncut.Told → List Heard
heard_all [] = []
heard_all (told ∷ rest) = heard_of told ∷ heard_all rest

-- the entries heard, joined: the run log
abbrev pub entries_of : Heard → List ℕ
entries_of (frame header bytes number sf bit entries) = entries
entries_of (noise count) = []

unfoldable pub log_heard : List Heard → List ℕ
log_heard [] = []
log_heard (heard ∷ rest) = entries_of heard ++ log_heard rest
