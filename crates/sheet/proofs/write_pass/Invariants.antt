-- One law for each way out of the loop, and one for a turn (Writing.antt): the machine walks the layout, so each turn writes one field of it, or a row of them
-- (WritingRows.antt).
use Rattle.sheet.proofs.Writing.{Turn}
use Prim.Native.Nat.{◌-◌}
use lib.ListN.{length}
use Rattle.sheet.proofs.write_pass.Given as goal

abbrev pub invariant-loop-out : goal.invariant-loop-out
invariant-loop-out l = Turn l.sheet l.initial.out l.initial.s l.out l.s l.pos l.at

abbrev pub decreases-loop-out : goal.decreases-loop-out
decreases-loop-out l = length l.sheet - l.at
