-- Each side of the test gives what the definition picks.
use Rattle.layout.specs.Tests.{if-same, if-other}
use borrow.Author.Rules.{rules}
use Rattle.ocb.proofs.clock_from.Goals as goal

pub returns-then-clock-eq1 : goal.returns-then-clock-eq1
returns-then-clock-eq1 c = search (if-same, rules)

pub returns : goal.returns
returns c = search (if-other, rules)
