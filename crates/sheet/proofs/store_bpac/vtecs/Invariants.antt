-- What is left of the blocks is stored from here as all was to be from the start.
use Rattle.sheet.proofs.StoringBpac.{Vtecs}
use Rattle.sheet.proofs.store_bpac.vtecs.Given as goal

abbrev pub invariant-loop-left : goal.invariant-loop-left
invariant-loop-left l = Vtecs l.payload l.n l.start l.first l.initial.sheet l.left l.pos l.at l.sheet

abbrev pub decreases-loop-left : goal.decreases-loop-left
decreases-loop-left l = l.left
