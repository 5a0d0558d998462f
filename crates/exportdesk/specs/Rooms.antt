-- Definitions to believe: ROOM where a call for C judges two lent slices.
use Rattle.std.specs.Prelude.{List, ℕ}
use Rattle.export.specs.Numbers.{room_for}

-- "Where several buffers are lent, any one short is ROOM": one answer if either slice has fewer places than it wants, else the other
unfoldable pub both_rooms : {A : Type 0} → ℕ → List ℕ → ℕ → List ℕ → A → A → A
both_rooms m first n second short rest = room_for m first short (room_for n second short rest)
