-- Each side of the test gives what the definition picks.
use Rattle.layout.specs.Tests.{if-same, if-other}
use borrow.Author.Rules.{rules}
use Rattle.message.proofs.bpac_start.Goals as goal

pub returns-then-subtype-eq0 : goal.returns-then-subtype-eq0
returns-then-subtype-eq0 c = search (if-same, rules)

pub returns : goal.returns
returns c = search (if-other, rules)
