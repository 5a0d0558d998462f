-- `place`: the areas passed do not have the ID.
use Rattle.book.proofs.Reading.{Seeking}
use Rattle.book.proofs.place.Given as goal

abbrev pub invariant-loop-i : goal.invariant-loop-i
invariant-loop-i l = Seeking l.bytes l.id l.count l.i
