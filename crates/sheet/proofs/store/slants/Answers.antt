use Rattle.sheet.proofs.Storing.{slants-start, slants-near, slants-next, slants-again, slants-done}
use native.Mathlib.Omega.{arith}
use borrow.Author.Rules.{rules}
use Rattle.sheet.proofs.store.slants.Goals as goal

pub loop-left-init : goal.loop-left-init
loop-left-init c = search (slants-start, rules)

pub slant-here-requires : goal.slant-here-requires
slant-here-requires c = search (slants-near, slants-next, rules)

pub loop-left-smaller : goal.loop-left-smaller
loop-left-smaller c = omega arith

pub loop-left-preserved : goal.loop-left-preserved
loop-left-preserved c = search (slants-again, rules)

pub returns : goal.returns
returns c = search (slants-done, rules)
