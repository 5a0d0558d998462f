-- Each side of the test gives what the definition picks.
use Rattle.layout.specs.Tests.{if-same, if-other}
use borrow.Author.Rules.{rules}
use Rattle.bpac.proofs.residual_field.Goals as goal

pub returns-then-size-eq0 : goal.returns-then-size-eq0
returns-then-size-eq0 c = search (if-same, rules)

pub returns : goal.returns
returns c = search (if-other, rules)
