-- Each test of the chain is a test of the definition, in the same order.
use Rattle.layout.specs.Tests.{if-same, if-other}
use borrow.Author.Rules.{rules}
use Rattle.message.proofs.constellation_of.Goals as goal

pub returns-then-subtype-eq0 : goal.returns-then-subtype-eq0
returns-then-subtype-eq0 c = search (if-same, if-other, rules)

pub returns-then-subtype-eq1 : goal.returns-then-subtype-eq1
returns-then-subtype-eq1 c = search (if-same, if-other, rules)

pub returns-then-subtype-eq2 : goal.returns-then-subtype-eq2
returns-then-subtype-eq2 c = search (if-same, if-other, rules)

pub returns-then-subtype-eq3 : goal.returns-then-subtype-eq3
returns-then-subtype-eq3 c = search (if-same, if-other, rules)

pub returns-then-subtype-eq4 : goal.returns-then-subtype-eq4
returns-then-subtype-eq4 c = search (if-same, if-other, rules)

pub returns : goal.returns
returns c = search (if-same, if-other, rules)
