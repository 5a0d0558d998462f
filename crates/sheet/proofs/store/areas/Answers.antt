use Rattle.sheet.proofs.Storing.{areas-start, areas-near, areas-next, areas-again, areas-done}
use native.Mathlib.Omega.{arith}
use borrow.Author.Rules.{rules}
use Rattle.sheet.proofs.store.areas.Goals as goal

pub loop-left-init : goal.loop-left-init
loop-left-init c = search (areas-start, rules)

pub area-here-requires : goal.area-here-requires
area-here-requires c = search (areas-near, areas-next, rules)

pub loop-left-smaller : goal.loop-left-smaller
loop-left-smaller c = omega arith

pub loop-left-preserved : goal.loop-left-preserved
loop-left-preserved c = search (areas-again, rules)

pub returns : goal.returns
returns c = search (areas-done, rules)
