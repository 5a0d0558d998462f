-- Model 0 has one coefficient, models 1 and 2 have two more than their number.
use Rattle.quick.proofs.Passing.{count-one, count-more}
use borrow.Author.Rules.{rules}
use Rattle.quick.proofs.for_hpac.coefficient_count.Goals as goal

pub returns-then-equation-eq0 : goal.returns-then-equation-eq0
returns-then-equation-eq0 c = search (count-one, rules)

pub returns : goal.returns
returns c = search (count-more, rules)
