-- The tests are those of `bias_if`, in its order.
use Rattle.quick.specs.Ocb.{bias-none, bias-on, bias-stop}
use borrow.Author.Rules.{rules}
use Rattle.quick.proofs.for_ocb.bias_if.Goals as goal

pub returns-then-phases-eq0 : goal.returns-then-phases-eq0
returns-then-phases-eq0 c = search (bias-stop, rules)

pub returns-then-present-eq1 : goal.returns-then-present-eq1
returns-then-present-eq1 c = search (bias-on, rules)

pub returns : goal.returns
returns c = search (bias-none, rules)
