-- One law for each way out of the loop, and one for a turn (Reading.antt): the machine walks the layout, so each turn reads one field of it.
use Rattle.sheet.proofs.Reading.{Turn}
use Prim.Native.Nat.{◌-◌}
use Rattle.sheet.proofs.judge_pass.Given as goal

abbrev pub invariant-loop-s : goal.invariant-loop-s
invariant-loop-s l = Turn l.payload l.total l.initial.s l.s l.pos l.at

abbrev pub decreases-loop-s : goal.decreases-loop-s
decreases-loop-s l = l.total - l.pos
