use Rattle.quick.proofs.Passing.{areas-start, areas-near, areas-none, areas-add, areas-again, areas-done}
use native.Mathlib.Omega.{arith}
use borrow.Author.Rules.{rules}
use Rattle.quick.proofs.for_hpac.areas_behind.Goals as goal

pub loop-left-init : goal.loop-left-init
loop-left-init c = search (areas-start, rules)

pub area_behind-area-requires : goal.area_behind-area-requires
area_behind-area-requires c = search (areas-near, rules)

pub returns-then-area-eq0 : goal.returns-then-area-eq0
returns-then-area-eq0 c = search (areas-none, rules)

pub overflow_add-entries : goal.overflow_add-entries
overflow_add-entries c = search (areas-add, rules)

pub loop-left-smaller : goal.loop-left-smaller
loop-left-smaller c = omega arith

pub loop-left-preserved : goal.loop-left-preserved
loop-left-preserved c = search (areas-again, rules)

pub returns : goal.returns
returns c = search (areas-done, rules)
