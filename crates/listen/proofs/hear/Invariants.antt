-- The tray stays ready, each event told is one of those left to tell, and what is still to be told is what was to be told at the start.
use lib.ListN.{length, drop}
use Rattle.stream.specs.Driving.{left}
use Rattle.listen.proofs.Turns.{Hearing}
use Rattle.listen.proofs.hear.Given as goal

abbrev pub invariant-loop-said : goal.invariant-loop-said
invariant-loop-said l = Hearing l.initial.bytes l.initial.tray l.initial.out l.initial.at l.portion l.bytes l.tray l.out l.at l.used

abbrev pub decreases-loop-said : goal.decreases-loop-said
decreases-loop-said l = length (left l.bytes l.tray (drop l.used l.portion))
