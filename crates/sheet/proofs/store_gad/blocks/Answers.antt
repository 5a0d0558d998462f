use Rattle.sheet.proofs.StoringGad.{blocks_start, blocks-near, blocks-next, blocks-room, blocks-again, blocks-done}
use native.Mathlib.Omega.{arith}
use borrow.Author.Rules.{rules}
use Rattle.sheet.proofs.store_gad.blocks.Goals as goal

pub loop-left-init : goal.loop-left-init
loop-left-init c = search (blocks_start, rules)

pub block-requires : goal.block-requires
block-requires c = search (blocks-room, rules)

pub overflow_add-pos : goal.overflow_add-pos
overflow_add-pos c = search (blocks-near, rules)

pub overflow_add-at : goal.overflow_add-at
overflow_add-at c = search (blocks-next, rules)

pub loop-left-smaller : goal.loop-left-smaller
loop-left-smaller c = omega arith

pub loop-left-preserved : goal.loop-left-preserved
loop-left-preserved c = search (blocks-again, rules)

pub returns : goal.returns
returns c = search (blocks-done, rules)
