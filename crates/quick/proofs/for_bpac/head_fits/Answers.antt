-- The tests are those of `head_fits`, in its order.
use Rattle.quick.specs.Bpac.{head-all, head-average, head-latitude, head-longitude}
use borrow.Author.Rules.{rules}
use Rattle.quick.proofs.for_bpac.head_fits.Goals as goal

pub returns-then-head-gt170 : goal.returns-then-head-gt170
returns-then-head-gt170 c = search (head-latitude, rules)

pub returns-then-head-gt360 : goal.returns-then-head-gt360
returns-then-head-gt360 c = search (head-longitude, rules)

pub returns-then-head-eq4095 : goal.returns-then-head-eq4095
returns-then-head-eq4095 c = search (head-average, rules)

pub returns : goal.returns
returns c = search (head-all, rules)
