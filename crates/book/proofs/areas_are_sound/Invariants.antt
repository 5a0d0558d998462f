-- `areas_are_sound`: the areas that are left are sound from the next ID on exactly when all are.
use Rattle.book.proofs.Reading.{Judging}
use Rattle.book.proofs.areas_are_sound.Given as goal

abbrev pub invariant-loop-i : goal.invariant-loop-i
invariant-loop-i l = Judging l.bytes l.count l.i l.least
