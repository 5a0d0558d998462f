-- The satellites that are left pass from here as all do from the start.
use Rattle.quick.proofs.Passing.{Slants}
use Rattle.quick.proofs.for_hpac.slants_end.Given as goal

abbrev pub invariant-loop-left : goal.invariant-loop-left
invariant-loop-left l = Slants l.payload l.n l.start l.equation l.grids l.points l.left l.pos

abbrev pub decreases-loop-left : goal.decreases-loop-left
decreases-loop-left l = l.left
