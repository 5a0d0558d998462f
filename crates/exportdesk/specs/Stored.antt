-- Serves proofs, and is proved: a desk's numbers, stored where there is room for them.
use Rattle.std.specs.Prelude.{◌≡◌, List, ℕ, ◌≤◌, length}
use Rattle.desk.specs.declared.Desk.{Desk}
use Rattle.export.specs.Numbers.{laid, stored}
use Rattle.export.specs.Stored.{stored_there}
use Rattle.exportdesk.specs.States.{desk_room, desk_of}

pub desk-there : (held : Desk) (lent now : List ℕ) → desk_room ≤ length lent → now ≡ stored (desk_of held) lent → now ≡ laid (desk_of held) lent
unfolding desk_of
desk-there held lent now h e = stored_there (desk_of held) lent now e h
