-- Definitions to believe: a tray as three numbers, and the answers of `stream` in numbers.
use Rattle.std.specs.Prelude.{List, [], ◌∷◌, ℕ, get_or}
use Rattle.sizes.specs.Sizes.{most_noise}
use Rattle.stream.specs.declared.Tray.{Tray}
use Rattle.stream.specs.declared.Said.{Said}
use Rattle.stream.specs.declared.Answer.{Answer}
use Rattle.stream.specs.Tray.{call_answer, call_bytes, finish_answer, finish_bytes}
use Rattle.export.specs.Numbers.{Told, refused, room_for, at_most}
use Rattle.export.specs.Frames.{header_room, header_of}

-- the places of a tray and of what is told
abbrev pub tray_room : ℕ
tray_room = 3

abbrev pub told_room : ℕ
told_room = 3

-- where several buffers are lent, any one short is ROOM (DECISIONS)
unfoldable pub rooms : {A : Type 0} → (tray told header : List ℕ) → A → A → A
rooms tray told header short rest = room_for tray_room tray short (room_for told_room told short (room_for header_room header short rest))

-- bytes held, length of the frame last shown, noise. Noise of 65,535 or more is not sound, whatever it is.
unfoldable pub tray_in : List ℕ → Tray
tray_in s = record { held = get_or s 0 0; shown = get_or s 1 0; noise = at_most most_noise (get_or s 2 0) }

unfoldable pub tray_of : Tray → List ℕ
tray_of t = t.held ∷ t.shown ∷ t.noise ∷ []

-- a call and finish on a tray of numbers
unfoldable pub call_of : (bytes tray input : List ℕ) → Answer
call_of bytes tray input = call_answer bytes (tray_in tray) input

unfoldable pub call_leaves : (bytes tray input : List ℕ) → List ℕ
call_leaves bytes tray input = call_bytes bytes (tray_in tray) input

unfoldable pub finish_of : (bytes tray : List ℕ) → Answer
finish_of bytes tray = finish_answer bytes (tray_in tray)

unfoldable pub finish_leaves : (bytes tray : List ℕ) → List ℕ
finish_leaves bytes tray = finish_bytes bytes (tray_in tray)

-- the event (0 hungry, 1 frame, 2 noise, 3 done), the bytes used, the noise told
unfoldable pub event_of : ℕ → ℕ → ℕ → List ℕ
event_of event used noise = event ∷ used ∷ noise ∷ []

unfoldable pub told_said : Said → ℕ → Told
told_said Said.Hungry used = record { number = 0; numbers = event_of 0 used 0 }
told_said (Said.Frame f) used = record { number = 0; numbers = event_of 1 used 0 }
told_said (Said.Noise n) used = record { number = 0; numbers = event_of 2 used n }
told_said Said.Done used = record { number = 0; numbers = event_of 3 used 0 }
told_said (Said.Refused refusal) used = refused refusal

unfoldable pub told_answer : Answer → Told
told_answer answer = told_said answer.said answer.used

-- the tray afterwards; a refusal leaves the old one
unfoldable pub tray_said : Said → Tray → List ℕ
tray_said Said.Hungry t = tray_of t
tray_said (Said.Frame f) t = tray_of t
tray_said (Said.Noise n) t = tray_of t
tray_said Said.Done t = tray_of t
tray_said (Said.Refused refusal) t = []

unfoldable pub tray_told : Answer → List ℕ
tray_told answer = tray_said answer.said answer.tray

-- of a frame event the header
unfoldable pub header_said : Said → List ℕ
header_said Said.Hungry = []
header_said (Said.Frame f) = header_of f
header_said (Said.Noise n) = []
header_said Said.Done = []
header_said (Said.Refused refusal) = []

unfoldable pub header_told : Answer → List ℕ
header_told answer = header_said answer.said
