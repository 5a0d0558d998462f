-- At each turn what is left to be found out is what was to be found out (`Repeats`).
use Rattle.quick.specs.Behind.{Repeats}
use Rattle.quick.specs.Bpac.{area_behind}
use Prim.Native.Nat.{◌+◌, ◌*◌, ◌≤◌}
use Rattle.quick.proofs.for_bpac.areas_behind.Given as goal

abbrev pub invariant-loop-left : goal.invariant-loop-left
invariant-loop-left l = (Repeats (area_behind l.payload) l.n 14 4 l.left l.pos l.at) × (l.pos + 5000 * l.left ≤ 14 + 5000 * l.n) × (l.at + 1000 * l.left ≤ 4 + 1000 * l.n)

abbrev pub decreases-loop-left : goal.decreases-loop-left
decreases-loop-left l = l.left
