-- At each turn the end from here on is the end from the start on (`Ending`).
use Rattle.quick.specs.Bpac.{Ending}
use Prim.Native.Nat.{◌+◌, ◌*◌, ◌≤◌}
use Rattle.quick.proofs.for_bpac.vtecs_end.Given as goal

abbrev pub invariant-loop-left : goal.invariant-loop-left
invariant-loop-left l = (Ending l.payload l.n l.start l.left l.pos) × (l.pos + 16 * l.left ≤ l.start + 16 * l.n)

abbrev pub decreases-loop-left : goal.decreases-loop-left
decreases-loop-left l = l.left
