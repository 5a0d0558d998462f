-- Each side of the test gives what the definition picks.
use Rattle.layout.specs.Tests.{if-least, if-below}
use borrow.Author.Rules.{rules}
use Rattle.hpac.proofs.row.by_equation.Goals as goal

pub returns-then-equation-ge2 : goal.returns-then-equation-ge2
returns-then-equation-ge2 c = search (if-least, if-below, rules)

pub returns-then-equation-ge1 : goal.returns-then-equation-ge1
returns-then-equation-ge1 c = search (if-least, if-below, rules)

pub returns : goal.returns
returns c = search (if-least, if-below, rules)
