-- `find`: what is found from here on is what was to be found (Seeks.antt).
use Prim.Native.Nat.{◌-◌}
use lib.ListN.{length, drop}
use Rattle.views.specs.Places.{found_in}
use Rattle.views.proofs.Seeks.{Finding}
use Rattle.views.proofs.places.find.Given as goal

abbrev pub invariant-loop-at : goal.invariant-loop-at
invariant-loop-at l = Finding l.sheet l.sf l.code (found_in l.sf l.code l.initial.s l.initial.at (drop l.initial.at l.sheet)) l.s l.at

abbrev pub decreases-loop-at : goal.decreases-loop-at
decreases-loop-at l = length l.sheet - l.at
