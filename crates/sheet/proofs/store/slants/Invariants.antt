-- What is left of the satellites is stored from here as all was to be from the start.
use Rattle.sheet.proofs.Storing.{Slanting}
use Rattle.sheet.proofs.store.slants.Given as goal

abbrev pub invariant-loop-left : goal.invariant-loop-left
invariant-loop-left l = Slanting l.payload l.n l.blocks l.points l.equation l.initial.pos l.initial.at l.initial.sheet l.left l.pos l.at l.sheet

abbrev pub decreases-loop-left : goal.decreases-loop-left
decreases-loop-left l = l.left
