-- The tests are those of the mirror, in its order; a mask has 64 bits at most.
use Rattle.quick.proofs.Passing.{ionosphere-absent, ionosphere-model, mask-near, ionosphere-passed}
use borrow.Author.Rules.{rules}
use Rattle.quick.proofs.for_hpac.ionosphere_behind.Goals as goal

pub returns-then-blocks-eq0 : goal.returns-then-blocks-eq0
returns-then-blocks-eq0 c = search (ionosphere-absent, rules)

pub returns-then-equation-gt2 : goal.returns-then-equation-gt2
returns-then-equation-gt2 c = search (ionosphere-model, rules)

pub satellites_behind-requires : goal.satellites_behind-requires
satellites_behind-requires c = search (mask-near, rules)

pub returns : goal.returns
returns c = search (ionosphere-passed, rules)
