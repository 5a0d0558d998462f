-- Document 01, "The stream": what is told of a whole stream's bytes, uncut. Definitions to believe.
use Rattle.std.specs.Prelude.{List, [], ◌∷◌, Bool, true, false, ℕ, zero, suc, pred, take, ltb}
use Rattle.sizes.specs.Sizes.{most_noise}
use Rattle.frame.specs.declared.Frame.{Frame}
use Rattle.frame.specs.declared.Checked.{Checked}
use Rattle.frame.specs.declared.Checked.TheVariants.{Accepted, Short, Refused}
use Rattle.frame.specs.Check.{checked}

-- a frame event, with the frame's header and its bytes; or a count of noise
pub data Event : Type 0 where
  frame : Frame → List ℕ → Event
  noise : ℕ → Event

-- with one more byte of noise the count is full, or it is so many
pub data Count : Type 0 where
  full : Count
  some : ℕ → Count

abbrev pub pick_count : Bool → Count → Count → Count
pick_count true a b = a
pick_count false a b = b

unfoldable pub one_more_of : ℕ → Count
one_more_of count = pick_count (ltb (suc count) most_noise) (some (suc count)) full

-- "a zero count is never told"
abbrev pub tell : ℕ → List Event → List Event
tell zero events = events
tell (suc n) events = noise (suc n) ∷ events

-- "told .. at 65,535 ..; then counted from zero"
abbrev pub pass : Count → (ℕ → List Event) → List Event
pass full rest = noise most_noise ∷ rest 0
pass (some n) rest = rest n

-- what lies first in `bytes`: a frame, told just after the noise before it and passed over; or one byte of noise. `Short` is SHORT: nothing
-- follows the end of the stream
abbrev pub scan_by : Checked → List ℕ → ℕ → (ℕ → ℕ → List Event) → List Event
scan_by (Accepted f) bytes count rest = tell count (frame f (take f.length bytes) ∷ rest (pred f.length) 0)
scan_by (Refused r) bytes count rest = pass (one_more_of count) (rest 0)
scan_by (Short n) bytes count rest = pass (one_more_of count) (rest 0)

-- from here on: `inside` more bytes belong to the frame last told, and `count` bytes of noise are untold
unfoldable pub scan_from : List ℕ → ℕ → ℕ → List Event
scan_from [] inside count = tell count []
scan_from (x ∷ xs) (suc inside) count = scan_from xs inside count
scan_from (x ∷ xs) zero count = scan_by (checked (x ∷ xs)) (x ∷ xs) count (λ inside count. scan_from xs inside count)

unfoldable pub scan : List ℕ → List Event
scan bytes = scan_from bytes 0 0
