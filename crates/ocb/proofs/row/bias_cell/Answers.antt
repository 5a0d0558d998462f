-- Each side of the test gives what the definition picks.
use Rattle.layout.specs.Tests.{if-same, if-other}
use borrow.Author.Rules.{rules}
use Rattle.ocb.proofs.row.bias_cell.Goals as goal

pub returns-then-bias-eq1 : goal.returns-then-bias-eq1
returns-then-bias-eq1 c = search (if-same, if-other, rules)

pub returns : goal.returns
returns c = search (if-same, if-other, rules)
