use Rattle.quick.proofs.Passing.{slants-start, slants-near, slants-none, slants-again, slants-done}
use native.Mathlib.Omega.{arith}
use borrow.Author.Rules.{rules}
use Rattle.quick.proofs.for_hpac.slants_end.Goals as goal

pub loop-left-init : goal.loop-left-init
loop-left-init c = search (slants-start, rules)

pub slant_end-pos-requires : goal.slant_end-pos-requires
slant_end-pos-requires c = search (slants-near, rules)

pub returns-then-pos-eq0 : goal.returns-then-pos-eq0
returns-then-pos-eq0 c = search (slants-none, rules)

pub loop-left-smaller : goal.loop-left-smaller
loop-left-smaller c = omega arith

pub loop-left-preserved : goal.loop-left-preserved
loop-left-preserved c = search (slants-again, rules)

pub returns : goal.returns
returns c = search (slants-done, rules)
