-- Each side of the test gives what the definition picks.
use Rattle.hpac.specs.Rows.{step-least, step-below}
use borrow.Author.Rules.{rules}
use Rattle.hpac.proofs.after.ionosphere_after.Goals as goal

pub returns-then-area-ge1 : goal.returns-then-area-ge1
returns-then-area-ge1 c = search (step-least, step-below, rules)

pub returns : goal.returns
returns c = search (step-least, step-below, rules)
