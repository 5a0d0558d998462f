-- `seek`: what is found from here on is what was sought (Seeks.antt).
use Prim.Native.Nat.{◌-◌}
use lib.ListN.{length, drop}
use Rattle.views.specs.Places.{sought_in}
use Rattle.views.proofs.Seeks.{Seeking}
use Rattle.views.proofs.places.seek.Given as goal

abbrev pub invariant-loop-at : goal.invariant-loop-at
invariant-loop-at l = Seeking l.sheet l.sf (sought_in l.sf l.initial.left l.initial.s l.initial.at (drop l.initial.at l.sheet)) l.s l.at l.left

abbrev pub decreases-loop-at : goal.decreases-loop-at
decreases-loop-at l = length l.sheet - l.at
