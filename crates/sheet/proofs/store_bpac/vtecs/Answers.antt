use Rattle.sheet.proofs.StoringBpac.{vtecs-start, vtecs-near, vtecs-next, vtecs-add, vtecs-again, vtecs-done}
use native.Mathlib.Omega.{arith}
use borrow.Author.Rules.{rules}
use Rattle.sheet.proofs.store_bpac.vtecs.Goals as goal

pub loop-left-init : goal.loop-left-init
loop-left-init c = search (vtecs-start, rules)

pub vtec-pos-requires : goal.vtec-pos-requires
vtec-pos-requires c = search (vtecs-near, vtecs-next, rules)

pub overflow_add-at : goal.overflow_add-at
overflow_add-at c = search (vtecs-add, rules)

pub loop-left-smaller : goal.loop-left-smaller
loop-left-smaller c = omega arith

pub loop-left-preserved : goal.loop-left-preserved
loop-left-preserved c = search (vtecs-again, rules)

pub returns : goal.returns
returns c = search (vtecs-done, rules)
