-- The tray stays empty until the answer, and what the call comes to from a place on is what it came to where the loop began (Tracking.antt).
use Rattle.stream.specs.Walk.{to_go}
use Rattle.stream.proofs.Tracking.{Track}
use Rattle.stream.proofs.feed_input.Given as goal

abbrev pub invariant-loop-frame : goal.invariant-loop-frame
invariant-loop-frame l = Track l.initial.bytes l.initial.place l.input l.bytes l.place

abbrev pub decreases-loop-frame : goal.decreases-loop-frame
decreases-loop-frame l = to_go l.place l.input
