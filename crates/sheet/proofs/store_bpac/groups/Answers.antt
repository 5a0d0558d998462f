use Rattle.sheet.proofs.StoringBpac.{groups-start, groups-near, groups-next, groups-add, groups-again, groups-done}
use native.Mathlib.Omega.{arith}
use borrow.Author.Rules.{rules}
use Rattle.sheet.proofs.store_bpac.groups.Goals as goal

pub loop-left-init : goal.loop-left-init
loop-left-init c = search (groups-start, rules)

pub overflow_add-set : goal.overflow_add-set
overflow_add-set c = search (groups-add, rules)

pub overflow_add-pos : goal.overflow_add-pos
overflow_add-pos c = search (groups-near, rules)

pub overflow_add-at : goal.overflow_add-at
overflow_add-at c = search (groups-next, rules)

pub loop-left-smaller : goal.loop-left-smaller
loop-left-smaller c = omega arith

pub loop-left-preserved : goal.loop-left-preserved
loop-left-preserved c = search (groups-again, rules)

pub returns : goal.returns
returns c = search (groups-done, rules)
