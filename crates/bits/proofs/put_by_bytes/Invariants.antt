-- The first k bits of the code are put; a step puts the next n, which lie in one byte.
use Prim.Native.Nat.{◌-◌}
use Rattle.bits.proofs.Steps.{Writing}
use Rattle.bits.proofs.put_by_bytes.Given as goal

abbrev pub invariant-loop-k : goal.invariant-loop-k
invariant-loop-k l = Writing l.initial.s l.pos l.width l.code l.s l.k

abbrev pub decreases-loop-k : goal.decreases-loop-k
decreases-loop-k l = l.width - l.k
