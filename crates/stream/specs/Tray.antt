-- Document 01, "The stream" and "Book and run": the tray, a call and finish. Definitions to believe.
use Rattle.std.specs.Prelude.{List, [], ◌∷◌, ◌++◌, Bool, true, false, not, ◌&&◌, ◌||◌, ℕ, zero, suc, ◌-◌, length, take, drop, replicate, ltb, leb, eqb}
use Rattle.sizes.specs.Sizes.{longest_frame, most_noise}
use Rattle.answer.specs.Number.{number_of}
use Rattle.answer.specs.Stop.{stop}
use Rattle.answer.specs.declared.Refusal.{Refusal}
use Rattle.answer.specs.declared.Refusal.TheVariants.{Room, State}
use Rattle.frame.specs.declared.Frame.{Frame}
use Rattle.frame.specs.declared.Checked.{Checked}
use Rattle.frame.specs.declared.Checked.TheVariants.{Accepted, Short, Refused}
use Rattle.frame.specs.Check.{checked}
use Rattle.stream.specs.declared.Tray.{Tray}
use Rattle.stream.specs.declared.Said.{Said}
use Rattle.stream.specs.declared.Answer.{Answer}
use Rattle.stream.specs.Scan.{Event, frame, noise, Count, full, some, one_more_of}

-- ---- soundness: "a tray holds at most 1,103 bytes, zeros after them, noise under 65,535, and a shown length is 0 or that of an accepted frame lying
-- first", among the bytes held

unfoldable pub zeros : List ℕ → Bool
zeros [] = true
zeros (x ∷ xs) = eqb x 0 && zeros xs

abbrev pub is_frame : ℕ → Checked → Bool
is_frame n (Accepted f) = eqb f.length n
is_frame n (Refused r) = false
is_frame n (Short m) = false

unfoldable pub sound : List ℕ → Tray → Bool
sound bytes tray =
    leb tray.held longest_frame
    && zeros (drop tray.held (take longest_frame bytes))
    && ltb tray.noise most_noise
    && (eqb tray.shown 0 || is_frame tray.shown (checked (take tray.held bytes)))

-- ---- the tray's contents: the bytes held, the length of the frame last shown, the noise count

pub record Contents : Type 0 where
  pub held : List ℕ
  pub shown : ℕ
  pub noise : ℕ

abbrev pub contents : List ℕ → Tray → Contents
contents bytes tray = record { held = take tray.held bytes; shown = tray.shown; noise = tray.noise }

-- "drops the shown frame"
abbrev pub live : Contents → List ℕ
live c = drop c.shown c.held

-- ---- "then decides on the bytes held": an event is due, or none is, with the bytes that are held then and the noise count

pub data Decision : Type 0 where
  event : Event → Contents → Decision
  none : List ℕ → ℕ → Decision

-- "Accepted: frame event, the frame lying first in the tray. Noise is told just before a frame"
abbrev pub accept : Frame → List ℕ → ℕ → Decision
accept f held zero = event (frame f (take f.length held)) (record { held = held; shown = f.length; noise = 0 })
accept f held (suc n) = event (noise (suc n)) (record { held = held; shown = 0; noise = 0 })

-- "that one byte is noise, scanning goes on at the next"; told "at 65,535"
abbrev pub next : Count → List ℕ → (ℕ → Decision) → Decision
next full rest go = event (noise most_noise) (record { held = rest; shown = 0; noise = 0 })
next (some n) rest go = go n

abbrev pub decide_by : Checked → List ℕ → List ℕ → ℕ → (ℕ → Decision) → Decision
decide_by (Accepted f) held rest count go = accept f held count
decide_by (Refused r) held rest count go = next (one_more_of count) rest go
decide_by (Short n) held rest count go = none held count

unfoldable pub decide : List ℕ → ℕ → Decision
decide [] count = none [] count
decide (x ∷ xs) count = decide_by (checked (x ∷ xs)) (x ∷ xs) xs count (λ n. decide xs n)

-- ---- what a call or finish comes to; with an event, and with none, how many bytes of the input were used

pub data Outcome : Type 0 where
  refused : Refusal → Outcome
  told : Event → Contents → ℕ → Outcome
  hungry : Contents → ℕ → Outcome
  done : Contents → Outcome

-- "SHORT: take one more byte"
abbrev pub taken : Outcome → Outcome
taken (refused r) = refused r
taken (told e c n) = told e c (suc n)
taken (hungry c n) = hungry c (suc n)
taken (done c) = done c

abbrev pub feed_by : Decision → (List ℕ → ℕ → Outcome) → Outcome
feed_by (event e c) more = told e c 0
feed_by (none held count) more = taken (more held count)

-- "with none, all input used, the call says hungry"
abbrev pub feed_end : Decision → Outcome
feed_end (event e c) = told e c 0
feed_end (none held count) = hungry (record { held = held; shown = 0; noise = count }) 0

unfoldable pub feed : List ℕ → List ℕ → ℕ → Outcome
feed [] held count = feed_end (decide held count)
feed (x ∷ input) held count = feed_by (decide held count) (λ held count. feed input (held ++ x ∷ []) count)

-- ---- "At finish SHORT with bytes held makes the first of them noise; finish says done when no byte is held and no noise is untold"

abbrev pub close_by : Checked → List ℕ → List ℕ → ℕ → (ℕ → Decision) → Decision
close_by (Accepted f) held rest count go = accept f held count
close_by (Refused r) held rest count go = next (one_more_of count) rest go
close_by (Short n) held rest count go = next (one_more_of count) rest go

unfoldable pub close : List ℕ → ℕ → Decision
close [] zero = none [] 0
close [] (suc n) = event (noise (suc n)) (record { held = []; shown = 0; noise = 0 })
close (x ∷ xs) count = close_by (checked (x ∷ xs)) (x ∷ xs) xs count (λ n. close xs n)

abbrev pub close_end : Decision → Outcome
close_end (event e c) = told e c 0
close_end (none held count) = done (record { held = held; shown = 0; noise = count })

-- ---- "A call or finish checks ROOM, STATE, drops the shown frame, then decides on the bytes held"

unfoldable pub called : List ℕ → Tray → List ℕ → Outcome
called bytes tray input =
    stop (ltb (length bytes) longest_frame) (refused Room) (
    stop (not (sound bytes tray)) (refused State) (
    feed input (live (contents bytes tray)) tray.noise))

unfoldable pub finished : List ℕ → Tray → Outcome
finished bytes tray =
    stop (ltb (length bytes) longest_frame) (refused Room) (
    stop (not (sound bytes tray)) (refused State) (
    close_end (close (live (contents bytes tray)) tray.noise)))

-- ---- what the caller sees: the answer, and the tray's bytes afterwards

abbrev pub fresh_tray : Tray
fresh_tray = record { held = 0; shown = 0; noise = 0 }

abbrev pub tray_of : Contents → Tray
tray_of c = record { held = length c.held; shown = c.shown; noise = c.noise }

abbrev pub said_of : Event → Said
said_of (frame f bytes) = Said.Frame f
said_of (noise n) = Said.Noise n

-- "Answer numbers": 0, but for a refusal
abbrev pub number_of_said : Said → ℕ
number_of_said (Said.Frame f) = 0
number_of_said (Said.Noise n) = 0
number_of_said Said.Hungry = 0
number_of_said Said.Done = 0
number_of_said (Said.Refused r) = number_of r

-- "A refusal returns its number and the old state, uses no input"
abbrev pub answer_of : Tray → Outcome → Answer
answer_of tray (refused r) = record { said = Said.Refused r; used = 0; tray = tray }
answer_of tray (told e c n) = record { said = said_of e; used = n; tray = tray_of c }
answer_of tray (hungry c n) = record { said = Said.Hungry; used = n; tray = tray_of c }
answer_of tray (done c) = record { said = Said.Done; used = 0; tray = tray_of c }

-- "the tray alone is zeroed past the bytes it holds, up to 1,103"; bytes beyond stay as lent
unfoldable pub laid : List ℕ → List ℕ → List ℕ
laid bytes held = held ++ (replicate (longest_frame - length held) 0 ++ drop longest_frame bytes)

-- "A refusal .. alters no lent byte"
abbrev pub bytes_of : List ℕ → Outcome → List ℕ
bytes_of bytes (refused r) = bytes
bytes_of bytes (told e c n) = laid bytes c.held
bytes_of bytes (hungry c n) = laid bytes c.held
bytes_of bytes (done c) = laid bytes c.held

abbrev pub call_answer : List ℕ → Tray → List ℕ → Answer
call_answer bytes tray input = answer_of tray (called bytes tray input)

abbrev pub call_bytes : List ℕ → Tray → List ℕ → List ℕ
call_bytes bytes tray input = bytes_of bytes (called bytes tray input)

abbrev pub finish_answer : List ℕ → Tray → Answer
finish_answer bytes tray = answer_of tray (finished bytes tray)

abbrev pub finish_bytes : List ℕ → Tray → List ℕ
finish_bytes bytes tray = bytes_of bytes (finished bytes tray)
