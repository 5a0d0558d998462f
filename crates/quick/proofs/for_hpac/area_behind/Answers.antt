-- The tests are those of the mirror, in its order; there are 127 points at most.
use Rattle.quick.proofs.Passing.{area-troposphere, area-ionosphere, points-few, area-passed}
use borrow.Author.Rules.{rules}
use Rattle.quick.proofs.for_hpac.area_behind.Goals as goal

pub returns-then-troposphere-eq3 : goal.returns-then-troposphere-eq3
returns-then-troposphere-eq3 c = search (area-troposphere, rules)

pub returns-then-ionosphere-eq3 : goal.returns-then-ionosphere-eq3
returns-then-ionosphere-eq3 c = search (area-ionosphere, rules)

pub troposphere_behind-behind-requires : goal.troposphere_behind-behind-requires
troposphere_behind-behind-requires c = search (points-few, rules)

pub ionosphere_after-requires : goal.ionosphere_after-requires
ionosphere_after-requires c = search (points-few, rules)

pub returns : goal.returns
returns c = search (area-passed, rules)
