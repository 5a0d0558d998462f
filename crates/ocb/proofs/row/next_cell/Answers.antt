-- Each side of the test gives what the definition picks.
use Rattle.ocb.specs.Rows.{next-none, next-some}
use borrow.Author.Rules.{rules}
use Rattle.ocb.proofs.row.next_cell.Goals as goal

pub returns-then-head-eq0 : goal.returns-then-head-eq0
returns-then-head-eq0 c = search (next-none, next-some, rules)

pub returns : goal.returns
returns c = search (next-none, next-some, rules)
