-- Each side of the test gives what the definition picks.
use Rattle.layout.specs.Tests.{if-least, if-below}
use borrow.Author.Rules.{rules}
use Rattle.hpac.proofs.t_grid_from.Goals as goal

pub returns-then-area-ge2 : goal.returns-then-area-ge2
returns-then-area-ge2 c = search (if-least, rules)

pub returns : goal.returns
returns c = search (if-below, rules)
