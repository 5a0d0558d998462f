-- One cell is some number below 256.
use Rattle.sheet.proofs.Repeats.{one_none, one-some}
use borrow.Author.Rules.{rules}
use Rattle.sheet.proofs.row.one_cell.Goals as goal

pub returns-then-group-eq0 : goal.returns-then-group-eq0
returns-then-group-eq0 c = search (one_none, rules)

pub returns : goal.returns
returns c = search (one-some, rules)
