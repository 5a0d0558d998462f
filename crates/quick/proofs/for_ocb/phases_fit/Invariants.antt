-- At each turn what is left to be found out is what was to be found out (`Withouts`).
use Rattle.quick.specs.Behind.{Withouts}
use Prim.Native.Nat.{◌+◌, ◌*◌}
use mathlib.Core.Path.{◌≡◌}
use Rattle.quick.proofs.for_ocb.phases_fit.Given as goal

abbrev pub invariant-loop-left : goal.invariant-loop-left
invariant-loop-left l = (Withouts l.payload 18 14 16383 l.n l.start l.left l.pos) × (l.pos + 18 * l.left ≡ l.start + 18 * l.n)

abbrev pub decreases-loop-left : goal.decreases-loop-left
decreases-loop-left l = l.left
