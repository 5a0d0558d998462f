-- What was counted, with what is left to be counted, is what is to be counted (`Counting`).
use Rattle.quick.specs.Bpac.{Counting}
use Prim.Native.Nat.{◌+◌, ◌*◌, ◌≤◌}
use mathlib.Core.Path.{◌≡◌}
use Rattle.quick.proofs.for_bpac.set_in.Given as goal

abbrev pub invariant-loop-left : goal.invariant-loop-left
invariant-loop-left l = (Counting l.payload l.n l.start l.left l.pos l.set) × (l.pos + 64 * l.left ≡ l.start + 64 * l.n) × (l.set + 64 * l.left ≤ 64 * l.n)

abbrev pub decreases-loop-left : goal.decreases-loop-left
decreases-loop-left l = l.left
