-- What is left of the satellites is stored from here as all was to be from the start.
use Rattle.sheet.proofs.StoringOcb.{Satellites}
use Rattle.sheet.proofs.store_ocb.satellites.Given as goal

abbrev pub invariant-loop-left : goal.invariant-loop-left
invariant-loop-left l = Satellites l.constellation l.yaw l.payload l.n l.start l.initial.sheet l.left l.pos l.at l.sheet

abbrev pub decreases-loop-left : goal.decreases-loop-left
decreases-loop-left l = l.left
