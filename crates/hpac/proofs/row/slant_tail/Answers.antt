-- Each side of the test gives what the definition picks.
use Rattle.hpac.specs.Rows.{slant-none, slant-some}
use borrow.Author.Rules.{rules}
use Rattle.hpac.proofs.row.slant_tail.Goals as goal

pub returns-then-walk-eq0 : goal.returns-then-walk-eq0
returns-then-walk-eq0 c = search (slant-none, slant-some, rules)

pub returns : goal.returns
returns c = search (slant-none, slant-some, rules)
