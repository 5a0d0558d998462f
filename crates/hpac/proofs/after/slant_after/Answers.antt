-- Each side of the test gives what the definition picks.
use Rattle.hpac.specs.Rows.{slant-over, slant-next}
use borrow.Author.Rules.{rules}
use Rattle.hpac.proofs.after.slant_after.Goals as goal

pub returns-then-walk-eq0 : goal.returns-then-walk-eq0
returns-then-walk-eq0 c = search (slant-over, slant-next, rules)

pub returns : goal.returns
returns c = search (slant-over, slant-next, rules)
