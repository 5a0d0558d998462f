-- What is still to be read from here is what was to be read at the start (Digits.antt).
use Prim.Native.Nat.{◌-◌}
use lib.ListN.{length}
use Rattle.runlog.proofs.Digits.{Reading}
use Rattle.runlog.proofs.command.byte_of.Given as goal

abbrev pub invariant-loop-i : goal.invariant-loop-i
invariant-loop-i l = Reading l.word l.n l.i

abbrev pub decreases-loop-i : goal.decreases-loop-i
decreases-loop-i l = length l.word - l.i
