-- `store_areas`: the areas before the i-th lie in the bytes, and the others are to be read; none of them is refused (Walking.antt).
use Rattle.kept.proofs.Walking.{Storing}
use Rattle.kept.proofs.store_areas.Given as goal

abbrev pub invariant-loop-i : goal.invariant-loop-i
invariant-loop-i l = Storing l.kept l.initial.bytes l.count l.at l.i l.end l.bytes
