-- Each side of the test gives what the definition picks.
use Rattle.hpac.specs.Rows.{step-least, step-below}
use borrow.Author.Rules.{rules}
use Rattle.hpac.proofs.after.grid_after.Goals as goal

pub returns-then-area-ge2 : goal.returns-then-area-ge2
returns-then-area-ge2 c = search (step-least, step-below, rules)

pub returns : goal.returns
returns c = search (step-least, step-below, rules)
