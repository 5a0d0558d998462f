-- What is left is stored from here as all was to be from the start.
use Rattle.sheet.proofs.Storing.{Stretching}
use Rattle.sheet.proofs.store.stretch.Given as goal

abbrev pub invariant-loop-left : goal.invariant-loop-left
invariant-loop-left l = Stretching l.payload l.width l.n l.pos-2 l.at-2 l.initial.sheet l.left l.pos l.at l.sheet

abbrev pub decreases-loop-left : goal.decreases-loop-left
decreases-loop-left l = l.left
