-- The tests are those of the mirror, in its order.
use Rattle.quick.proofs.Passing.{troposphere-absent, troposphere-model, troposphere-delay, troposphere-passed}
use borrow.Author.Rules.{rules}
use Rattle.quick.proofs.for_hpac.troposphere_behind.Goals as goal

pub returns-then-blocks-eq0 : goal.returns-then-blocks-eq0
returns-then-blocks-eq0 c = search (troposphere-absent, rules)

pub returns-then-equation-gt2 : goal.returns-then-equation-gt2
returns-then-equation-gt2 c = search (troposphere-model, rules)

pub returns-then-head-eq255 : goal.returns-then-head-eq255
returns-then-head-eq255 c = search (troposphere-delay, rules)

pub returns : goal.returns
returns c = search (troposphere-passed, rules)
