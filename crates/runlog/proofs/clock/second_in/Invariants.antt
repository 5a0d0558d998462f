-- What is still to be read from here is what was to be read at the start (Ticking.antt).
use Prim.Native.Nat.{◌-◌}
use lib.ListN.{length}
use Rattle.runlog.proofs.Ticking.{Ticks}
use Rattle.runlog.proofs.clock.second_in.Given as goal

abbrev pub invariant-loop-i : goal.invariant-loop-i
invariant-loop-i l = Ticks l.text l.n l.i

abbrev pub decreases-loop-i : goal.decreases-loop-i
decreases-loop-i l = length l.text - l.i
