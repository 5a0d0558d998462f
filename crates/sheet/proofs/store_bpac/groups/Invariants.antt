-- What is left of the groups is stored from here as all was to be from the start, and what was counted is what they have set.
use Rattle.sheet.proofs.StoringBpac.{Groups}
use Rattle.sheet.proofs.store_bpac.groups.Given as goal

abbrev pub invariant-loop-left : goal.invariant-loop-left
invariant-loop-left l = Groups l.payload l.n l.start l.first l.initial.sheet l.left l.pos l.at l.set l.sheet

abbrev pub decreases-loop-left : goal.decreases-loop-left
decreases-loop-left l = l.left
