-- What is left of the areas is stored from here as all was to be from the start.
use Rattle.sheet.proofs.Storing.{Areas}
use Rattle.sheet.proofs.store.areas.Given as goal

abbrev pub invariant-loop-left : goal.invariant-loop-left
invariant-loop-left l = Areas l.constellation l.payload l.n l.initial.sheet l.left l.pos l.at l.sheet

abbrev pub decreases-loop-left : goal.decreases-loop-left
decreases-loop-left l = l.left
