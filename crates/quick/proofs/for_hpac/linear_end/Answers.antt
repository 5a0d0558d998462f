-- By the model: the constant alone, or all three.
use Rattle.quick.proofs.Passing.{linear-one, linear-three}
use borrow.Author.Rules.{rules}
use Rattle.quick.proofs.for_hpac.linear_end.Goals as goal

pub returns-then-equation-eq0 : goal.returns-then-equation-eq0
returns-then-equation-eq0 c = search (linear-one, rules)

pub returns : goal.returns
returns c = search (linear-three, rules)
