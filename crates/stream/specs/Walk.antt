-- What the code's own steps compute. Serves proofs: no contract of a public function cites these.
use Rattle.std.specs.Prelude.{◌≡◌, List, [], ◌++◌, cond, ℕ, ◌+◌, ◌-◌, ◌*◌, ◌%◌, ◌≤◌, ◌<◌, min, length, get_or, take, drop, replicate, ltb}
use Rattle.sizes.specs.Sizes.{longest_frame, most_noise}
use Rattle.frame.specs.declared.Frame.{Frame}
use Rattle.frame.specs.declared.Checked.TheVariants.{Short}
use Rattle.checks.specs.Crc.{frame_crc}
use Rattle.frame.specs.Fields.{preamble}
use Rattle.frame.specs.Check.{checked}
use Rattle.stream.specs.declared.Tray.{Tray}
use Rattle.stream.specs.declared.Said.{Said}
use Rattle.stream.specs.declared.Answer.{Answer}
use Rattle.stream.specs.declared.Place.{Place}
use Rattle.stream.specs.Tray.{Outcome, refused, told, hungry, done, feed, close, close_end, fresh_tray, answer_of, laid}

-- the first `start` of the bytes held go, the rest moves to the front, and zeros fill the end
unfoldable pub shifted : List ℕ → ℕ → ℕ → List ℕ
shifted bytes held start = drop start (take held bytes) ++ (replicate start 0 ++ drop held bytes)

-- a place within the tray and the input
pub record Within (place : Place) (bytes input : List ℕ) : Type 0 where
  pub start-in : place.start ≤ place.held
  pub held-most : place.held ≤ longest_frame
  pub room : longest_frame ≤ length bytes
  pub noise-less : place.noise < most_noise
  pub used-in : place.used ≤ length input

-- and zeros after the bytes held
pub record Standing (place : Place) (bytes input : List ℕ) : Type 0 where
  pub within : Within place bytes input
  pub padded : bytes ≡ laid bytes (take place.held bytes)

-- so many more bytes of the input were used
abbrev pub plus : ℕ → Outcome → Outcome
plus u (refused r) = refused r
plus u (told e c n) = told e c (u + n)
plus u (hungry c n) = hungry c (u + n)
plus u (done c) = done c

-- the live bytes of a place: of the tray, or of the input
abbrev pub live_at : Place → List ℕ → List ℕ
live_at place lies = drop place.start (take place.held lies)

-- what a call comes to from a place on
unfoldable pub fed_from : (input lies : List ℕ) → Place → Outcome
fed_from input lies place = plus place.used (feed (drop place.used input) (live_at place lies) place.noise)

-- what finish comes to from a place on
unfoldable pub closed_from : List ℕ → Place → Outcome
closed_from bytes place = plus place.used (close_end (close (live_at place bytes) place.noise))

-- how far a place is from the end: each turn of a loop comes nearer
abbrev pub to_go : Place → List ℕ → ℕ
to_go place input = 3 * (length input - place.used) + (place.held - place.start) + place.held

-- a step from a place on: what all comes to, which is G of tray and place, stays the same
pub record Onward (G : List ℕ → Place → Outcome) (place : Place) (bytes input : List ℕ) (place' : Place) (bytes' : List ℕ) : Type 0 where
  pub standing : Standing place' bytes' input
  pub beyond : drop longest_frame bytes' ≡ drop longest_frame bytes
  pub on : G bytes' place' ≡ G bytes place
  pub nearer : to_go place' input < to_go place input

-- the bytes that are held then
abbrev pub held_by : Outcome → List ℕ
held_by (refused r) = []
held_by (told e c n) = c.held
held_by (hungry c n) = c.held
held_by (done c) = c.held

-- what all comes to is said, and the tray is as that leaves it
pub record Answered (o : Outcome) (bytes : List ℕ) (answer : Answer) (bytes' : List ℕ) : Type 0 where
  pub says : answer ≡ answer_of fresh_tray o
  pub leaves : bytes' ≡ laid bytes (held_by o)

-- the last bytes held are those of the input that were used
pub record Ends (place : Place) (bytes input : List ℕ) : Type 0 where
  pub used-held : place.used ≤ place.held
  pub ends : drop (place.held - place.used) (take place.held bytes) ≡ take place.used input

-- SHORT, and there is input left; some live byte came before it
pub record Wanting (place : Place) (bytes input : List ℕ) (wanted : ℕ) : Type 0 where
  pub short : checked (live_at place bytes) ≡ Short wanted
  pub some_left : place.used < length input
  pub ending : Ends place bytes input
  pub older : place.used < place.held - place.start

-- a place whose live bytes lie in the input, up to those used
pub record Seen (place : Place) (input : List ℕ) : Type 0 where
  pub start-in : place.start ≤ place.held
  pub held-used : place.held ≡ place.used
  pub held-most : place.held - place.start ≤ longest_frame
  pub noise-less : place.noise < most_noise
  pub used-in : place.used ≤ length input

-- a step along the input: what the call comes to stays the same
pub record Along (place : Place) (input : List ℕ) (place' : Place) : Type 0 where
  pub seen : Seen place' input
  pub on : fed_from input input place' ≡ fed_from input input place
  pub no-further : to_go place' input ≤ to_go place input

-- so many bytes from the first live one on tell that it is noise, which may be counted without being told
pub data Told (place : Place) (input : List ℕ) : ℕ → Type 0 where
  plain : place.start < length input → place.noise + 1 < most_noise → (get_or input place.start 0 ≡ preamble → ⊥) → Told place input 1
  wrong : place.start + 4 ≤ length input → place.noise + 1 < most_noise → get_or input place.start 0 ≡ preamble
      → (frame_crc (get_or input (place.start + 1) 0) (get_or input (place.start + 2) 0) (get_or input (place.start + 3) 0) ≡ get_or input (place.start + 3) 0 % 16 → ⊥)
      → Told place input 4

-- where so many bytes are wanted, the input is used up to there
abbrev pub reached : Place → List ℕ → ℕ → Place
reached place input wanted =
    cond (ltb (place.start + min wanted (length input - place.start)) place.held) place
    (record {
      start = place.start;
      held = place.start + min wanted (length input - place.start);
      noise = place.noise;
      used = place.start + min wanted (length input - place.start);
    })

-- a tray with room that holds nothing
pub record Empty (bytes : List ℕ) : Type 0 where
  pub room : longest_frame ≤ length bytes
  pub padded : bytes ≡ laid bytes []

-- one byte of noise
abbrev pub noised : Place → Place
noised place = record { start = place.start + 1; held = place.held; noise = place.noise + 1; used = place.used }

-- an answer at a place, whose live bytes stay in the tray
abbrev pub settled : Place → Said → ℕ → ℕ → Answer
settled place said shown noise = record { said = said; used = place.used; tray = record { held = place.held - place.start; shown = shown; noise = noise } }

-- noise is told just before a frame
abbrev pub shown_answer : Place → Frame → Answer
shown_answer place frame = cond (ltb 0 place.noise) (settled place (Said.Noise place.noise) 0 0) (settled place (Said.Frame frame) frame.length 0)

-- where a call starts: the frame last shown is dropped
abbrev pub dropped_place : Tray → Place
dropped_place tray = record { start = 0; held = tray.held - tray.shown; noise = tray.noise; used = 0 }
