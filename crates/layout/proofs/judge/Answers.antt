-- Each test of the chain is a test of the definition, in the same order.
use Rattle.layout.specs.Layout.{judge}
use Rattle.layout.specs.Tests.{if-same, if-other, if-less, if-from}
use borrow.Author.Rules.{rules}
use Rattle.layout.proofs.judge.Goals as goal

pub returns-then-code-field : goal.returns-then-code-field
unfolding judge
returns-then-code-field c = search (if-same, if-other, if-less, if-from, rules)

pub returns-then-code-field-2 : goal.returns-then-code-field-2
unfolding judge
returns-then-code-field-2 c = search (if-same, if-other, if-less, if-from, rules)

pub returns-then-field-code : goal.returns-then-field-code
unfolding judge
returns-then-field-code c = search (if-same, if-other, if-less, if-from, rules)

pub returns-then-code-field-3 : goal.returns-then-code-field-3
unfolding judge
returns-then-code-field-3 c = search (if-same, if-other, if-less, if-from, rules)

pub returns : goal.returns
unfolding judge
returns c = search (if-same, if-other, if-less, if-from, rules)
