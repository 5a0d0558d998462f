-- Each side of the test gives what the definition picks.
use Rattle.layout.specs.Tests.{if-same, if-other}
use borrow.Author.Rules.{rules}
use Rattle.hpac.proofs.sized.residual_number.Goals as goal

pub returns-then-size-eq0 : goal.returns-then-size-eq0
returns-then-size-eq0 c = search (if-same, if-other, rules)

pub returns-then-size-eq1 : goal.returns-then-size-eq1
returns-then-size-eq1 c = search (if-same, if-other, rules)

pub returns-then-size-eq2 : goal.returns-then-size-eq2
returns-then-size-eq2 c = search (if-same, if-other, rules)

pub returns : goal.returns
returns c = search (if-same, if-other, rules)
