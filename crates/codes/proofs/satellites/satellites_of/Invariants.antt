-- The loop keeps the numbers found so far, zeros behind them, and that the others are to come (Listing.antt).

use Rattle.codes.specs.Fields.{satellites_of}
use Rattle.codes.specs.Listing.{Listing}
use Rattle.codes.proofs.satellites.satellites_of.Given as goal

abbrev pub invariant-loop-number : goal.invariant-loop-number
invariant-loop-number l =
    ((goal.iterator-loop-number).can_next l.number-iterator ×
    (goal.iterator-loop-number).is_finite l.number-iterator) ×
    Listing (satellites_of l.fn.constellation l.fn.size l.fn.mask) l.number-iterator l.numbers l.count
