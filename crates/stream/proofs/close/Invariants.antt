-- What finish comes to from a place on is what it came to where the loop began (Loop.antt, Ending.antt).
use mathlib.Core.List.{[]}
use Rattle.stream.specs.Walk.{to_go, closed_from}
use Rattle.stream.proofs.Loop.{Far}
use Rattle.stream.proofs.close.Given as goal

abbrev pub invariant-loop-place : goal.invariant-loop-place
invariant-loop-place l = Far closed_from l.initial.bytes l.initial.place [] l.bytes l.place

abbrev pub decreases-loop-place : goal.decreases-loop-place
decreases-loop-place l = to_go l.place []
