use Rattle.sheet.proofs.Storing.{stretch-start, stretch-near, stretch-next, stretch-again, stretch-done}
use native.Mathlib.Omega.{arith}
use borrow.Author.Rules.{rules}
use Rattle.sheet.proofs.store.stretch.Goals as goal

pub loop-left-init : goal.loop-left-init
loop-left-init c = search (stretch-start, rules)

pub overflow_add-pos : goal.overflow_add-pos
overflow_add-pos c = search (stretch-near, rules)

pub overflow_add-at : goal.overflow_add-at
overflow_add-at c = search (stretch-next, rules)

pub loop-left-smaller : goal.loop-left-smaller
loop-left-smaller c = omega arith

pub loop-left-preserved : goal.loop-left-preserved
loop-left-preserved c = search (stretch-again, rules)

pub returns : goal.returns
returns c = search (stretch-done, rules)
