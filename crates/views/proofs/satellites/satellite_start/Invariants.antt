-- `satellite_start`: satellite after satellite is passed.
use Rattle.views.proofs.Ocbs.{Passing}
use Rattle.views.proofs.satellites.satellite_start.Given as goal

abbrev pub invariant-loop-left : goal.invariant-loop-left
invariant-loop-left l = Passing l.sheet l.yaw l.place l.left l.at

abbrev pub decreases-loop-left : goal.decreases-loop-left
decreases-loop-left l = l.left
