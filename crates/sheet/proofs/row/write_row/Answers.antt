-- By whether the group is one cell.
use Rattle.sheet.proofs.Repeats.{one-there}
use borrow.Author.Rules.{rules}
use Rattle.sheet.proofs.row.write_row.Goals as goal

pub write_same-requires : goal.write_same-requires
write_same-requires c = search (one-there, rules)
