-- `reach`: the areas passed have smaller IDs.
use Rattle.book.specs.Search.{Passed}
use Rattle.book.proofs.reach.Given as goal

abbrev pub invariant-loop-i : goal.invariant-loop-i
invariant-loop-i l = Passed l.id l.count l.bytes l.i
