-- At each turn what is left to be found out is what was to be found out (`Repeats`).
use Rattle.quick.specs.Behind.{Repeats}
use Rattle.quick.specs.Ocb.{satellite_behind}
use Prim.Native.Nat.{◌+◌, ◌*◌, ◌≤◌}
use Rattle.quick.proofs.for_ocb.satellites_behind.Given as goal

abbrev pub invariant-loop-left : goal.invariant-loop-left
invariant-loop-left l = (Repeats (satellite_behind l.constellation l.yaw l.payload) l.n l.start 8 l.left l.pos l.at) × (l.pos + 5000 * l.left ≤ l.start + 5000 * l.n) × (l.at + 500 * l.left ≤ 8 + 500 * l.n)

abbrev pub decreases-loop-left : goal.decreases-loop-left
decreases-loop-left l = l.left
