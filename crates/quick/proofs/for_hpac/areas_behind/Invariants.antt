-- The areas that are left pass from here as all do from the start.
use Rattle.quick.proofs.Passing.{Areas}
use Rattle.quick.proofs.for_hpac.areas_behind.Given as goal

abbrev pub invariant-loop-left : goal.invariant-loop-left
invariant-loop-left l = Areas l.constellation l.payload l.n l.left l.pos l.entries

abbrev pub decreases-loop-left : goal.decreases-loop-left
decreases-loop-left l = l.left
