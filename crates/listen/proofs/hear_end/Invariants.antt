-- The tray stays ready, each event told is one of those left to tell, and what is still to be told is what was to be told at the start.
use mathlib.Core.List.{[]}
use lib.ListN.{length}
use Rattle.stream.specs.Driving.{left}
use Rattle.listen.proofs.Turns.{Ending}
use Rattle.listen.proofs.hear_end.Given as goal

abbrev pub invariant-loop-last : goal.invariant-loop-last
invariant-loop-last l = Ending l.initial.bytes l.initial.tray l.initial.out l.initial.at l.bytes l.tray l.out l.at

abbrev pub decreases-loop-last : goal.decreases-loop-last
decreases-loop-last l = length (left l.bytes l.tray [])
