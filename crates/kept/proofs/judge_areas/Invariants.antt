-- `judge_areas`: what is still to be read decides what all is (Walking.antt).
use Rattle.kept.proofs.Walking.{Walking}
use Rattle.kept.proofs.judge_areas.Given as goal

abbrev pub invariant-loop-i : goal.invariant-loop-i
invariant-loop-i l = Walking l.kept l.count l.at l.i l.least l.end
