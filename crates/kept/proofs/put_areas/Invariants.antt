-- `put_areas`: the areas passed are laid one behind the other.
use Rattle.book.specs.Book.{areas_in}
use Rattle.kept.proofs.Putting.{Laying}
use Rattle.kept.proofs.put_areas.Given as goal

abbrev pub invariant-loop-i : goal.invariant-loop-i
invariant-loop-i l = Laying l.initial.out (areas_in l.count l.bytes) l.at l.count l.i l.end l.out
