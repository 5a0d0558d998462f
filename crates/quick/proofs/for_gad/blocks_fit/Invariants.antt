-- At each turn what is left to be found out is what was to be found out (`Turn`).
use Rattle.quick.specs.Gad.{Turn}
use Rattle.quick.proofs.for_gad.blocks_fit.Given as goal

abbrev pub invariant-loop-left : goal.invariant-loop-left
invariant-loop-left l = Turn l.payload l.n l.left l.pos

abbrev pub decreases-loop-left : goal.decreases-loop-left
decreases-loop-left l = l.left
