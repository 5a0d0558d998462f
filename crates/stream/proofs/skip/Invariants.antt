-- A byte that is told to be noise is passed over, and what the call comes to stays the same (Skipping.antt).
use Rattle.stream.specs.Walk.{Along, to_go}
use Rattle.stream.proofs.skip.Given as goal

abbrev pub invariant-loop-wanted : goal.invariant-loop-wanted
invariant-loop-wanted l = Along l.initial.place l.input l.place

abbrev pub decreases-loop-wanted : goal.decreases-loop-wanted
decreases-loop-wanted l = to_go l.place l.input
