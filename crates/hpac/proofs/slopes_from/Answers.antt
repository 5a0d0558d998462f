-- Each side of the test gives what the definition picks.
use Rattle.layout.specs.Tests.{if-least, if-below}
use borrow.Author.Rules.{rules}
use Rattle.hpac.proofs.slopes_from.Goals as goal

pub returns-then-walk-ge1 : goal.returns-then-walk-ge1
returns-then-walk-ge1 c = search (if-least, rules)

pub returns : goal.returns
returns c = search (if-below, rules)
