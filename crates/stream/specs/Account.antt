-- Definitions to believe: the bytes of a stream that an event accounts for, and where they lie.
use Rattle.std.specs.Prelude.{◌≡◌, List, [], ◌∷◌, ℕ, ◌+◌, ◌≤◌, ◌<◌, length, take, drop}
use Rattle.sizes.specs.Sizes.{most_noise}
use Rattle.frame.specs.declared.Frame.{Frame}
use Rattle.frame.specs.declared.Checked.TheVariants.{Accepted}
use Rattle.frame.specs.Check.{checked}
use Rattle.stream.specs.Scan.{Event, frame, noise}

-- how many bytes: those of the frame, or the count of noise
abbrev pub size_of : Event → ℕ
size_of (frame header bytes) = length bytes
size_of (noise count) = count

unfoldable pub size_of_all : List Event → ℕ
size_of_all [] = 0
size_of_all (event ∷ events) = size_of event + size_of_all events

-- from byte `at` on: the bytes of a frame, as many as its header says
pub record FrameAt (stream : List ℕ) (at : ℕ) (header : Frame) (bytes : List ℕ) : Type 0 where
  pub begins : checked (drop at stream) ≡ Accepted header
  pub lies : bytes ≡ take header.length (drop at stream)
  pub whole : length bytes ≡ header.length

-- from byte `at` on: so much noise, at most 65,535 bytes and not none ("a zero count is never told"), at no byte of which a frame begins
abbrev pub NoFrame : (stream : List ℕ) → (at count : ℕ) → Type 0
NoFrame stream at count = (i : ℕ) → i < count → (header : Frame) → checked (drop (at + i) stream) ≡ Accepted header → ⊥

pub record NoiseAt (stream : List ℕ) (at count : ℕ) : Type 0 where
  pub least : 1 ≤ count
  pub most : count ≤ most_noise
  pub no-frame : NoFrame stream at count
