use Rattle.sheet.proofs.StoringOcb.{phases-start, phases-next, phases-near, phases-further, phases-again, phases-done}
use native.Mathlib.Omega.{arith}
use borrow.Author.Rules.{rules}
use Rattle.sheet.proofs.store_ocb.each_phase.Goals as goal

pub loop-left-init : goal.loop-left-init
loop-left-init c = search (phases-start, rules)

pub phase-requires : goal.phase-requires
phase-requires c = search (phases-next, rules)

pub overflow_add-pos : goal.overflow_add-pos
overflow_add-pos c = search (phases-near, rules)

pub overflow_add-at : goal.overflow_add-at
overflow_add-at c = search (phases-further, rules)

pub loop-left-smaller : goal.loop-left-smaller
loop-left-smaller c = omega arith

pub loop-left-preserved : goal.loop-left-preserved
loop-left-preserved c = search (phases-again, rules)

pub returns : goal.returns
returns c = search (phases-done, rules)
