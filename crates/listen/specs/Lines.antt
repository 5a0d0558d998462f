-- Definitions to believe: document 01, "Measured cases": the program "prints a line per event, `frame LENGTH TYPE SUBTYPE` (whole frame in bytes, TF002, TF007) or
-- `noise COUNT`, all decimal, lastly `end`".
use mathlib.Core.List.{List, [], ◌∷◌, ◌++◌, flatten}
use Rattle.std.specs.Prelude.{ℕ}
use Rattle.frame.specs.declared.Frame.{Frame}
use Rattle.text.specs.Text.{decimal}
use Rattle.stream.specs.declared.Said.{Said}
use Rattle.stream.specs.declared.Said.TheVariants as said
use Rattle.stream.specs.Scan.{Event}
use Rattle.stream.specs.Tray.{said_of}

-- `frame`, `noise`, a space, a line's end, and the last line
abbrev pub frame_word : List ℕ
frame_word = 102 ∷ 114 ∷ 97 ∷ 109 ∷ 101 ∷ []

abbrev pub noise_word : List ℕ
noise_word = 110 ∷ 111 ∷ 105 ∷ 115 ∷ 101 ∷ []

abbrev pub space : List ℕ
space = 32 ∷ []

abbrev pub line_end : List ℕ
line_end = 10 ∷ []

abbrev pub end_line : List ℕ
end_line = 101 ∷ 110 ∷ 100 ∷ 10 ∷ []

-- the parts of a line
abbrev pub number_parts : Frame → List (List ℕ)
number_parts f = space ∷ decimal f.length ∷ space ∷ decimal f.message_type ∷ space ∷ decimal f.subtype ∷ []

abbrev pub frame_parts : Frame → List (List ℕ)
frame_parts f = frame_word ∷ (number_parts f ++ (line_end ∷ []))

abbrev pub noise_parts : (count : ℕ) → List (List ℕ)
noise_parts count = noise_word ∷ space ∷ decimal count ∷ line_end ∷ []

abbrev pub parts_of : Said → List (List ℕ)
parts_of (said.Frame f) = frame_parts f
parts_of (said.Noise count) = noise_parts count
parts_of said.Hungry = []
parts_of said.Done = []
parts_of (said.Refused why) = []

-- the line of what is said; of what is no event, none
unfoldable pub line_of : Said → List ℕ
line_of s = flatten (parts_of s)

-- the lines of events
unfoldable pub lines_of : List Event → List (List ℕ)
lines_of [] = []
lines_of (e ∷ es) = line_of (said_of e) ∷ lines_of es
