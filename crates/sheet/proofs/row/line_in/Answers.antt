-- A number that no field has counts one bit.
use Rattle.sheet.proofs.Lines.{line-none, line-some}
use borrow.Author.Rules.{rules}
use Rattle.sheet.proofs.row.line_in.Goals as goal

pub returns-then-width-eq0 : goal.returns-then-width-eq0
returns-then-width-eq0 c = search (line-none, rules)

pub returns : goal.returns
returns c = search (line-some, rules)
