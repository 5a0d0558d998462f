-- A sound tray holds its shown frame, so the shift is within the tray.
use borrow.Author.Rules.{rules}
use Rattle.stream.proofs.Places.{held_in, shown-in}
use Rattle.stream.proofs.drop_shown.Goals as goal

pub shift-requires : goal.shift-requires
shift-requires c = search (held_in, shown-in, rules)

pub overflow_sub-result : goal.overflow_sub-result
overflow_sub-result c = search (shown-in, rules)
