-- A test for each of the three, in their order.
use Rattle.quick.proofs.Passing.{three-first, three-second, three_third, three-passed}
use borrow.Author.Rules.{rules}
use Rattle.quick.proofs.for_hpac.three_end.Goals as goal

pub returns-then-three-width : goal.returns-then-three-width
returns-then-three-width c = search (three-first, rules)

pub returns-then-three-width-2 : goal.returns-then-three-width-2
returns-then-three-width-2 c = search (three-second, rules)

pub returns-then-three-top : goal.returns-then-three-top
returns-then-three-top c = search (three_third, rules)

pub returns : goal.returns
returns c = search (three-passed, rules)
