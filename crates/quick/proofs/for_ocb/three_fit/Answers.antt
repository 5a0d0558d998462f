-- The tests are those of `three_fit`, in its order.
use Rattle.quick.specs.Ocb.{three-all, three-first, three-second, three_third}
use borrow.Author.Rules.{rules}
use Rattle.quick.proofs.for_ocb.three_fit.Goals as goal

pub returns-then-three-eq16383 : goal.returns-then-three-eq16383
returns-then-three-eq16383 c = search (three-first, rules)

pub returns-then-three-eq16383-2 : goal.returns-then-three-eq16383-2
returns-then-three-eq16383-2 c = search (three-second, rules)

pub returns-then-three-eq16383-3 : goal.returns-then-three-eq16383-3
returns-then-three-eq16383-3 c = search (three_third, rules)

pub returns : goal.returns
returns c = search (three-all, rules)
