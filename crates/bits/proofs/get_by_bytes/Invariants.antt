-- What is read so far is the field of the first k bits; a step appends the next n bits, which lie in one byte.
use Prim.Native.Nat.{◌-◌}
use Rattle.bits.proofs.Steps.{Reading}
use Rattle.bits.proofs.get_by_bytes.Given as goal

abbrev pub invariant-loop-k : goal.invariant-loop-k
invariant-loop-k l = Reading l.s l.pos l.width l.acc l.k

abbrev pub decreases-loop-k : goal.decreases-loop-k
decreases-loop-k l = l.width - l.k
