-- What the call comes to from a place on is what it came to where the loop began; each return says that (Loop.antt).
use Rattle.stream.specs.Walk.{to_go}
use Rattle.stream.proofs.Loop.{Fed}
use Rattle.stream.proofs.feed.Given as goal

abbrev pub invariant-loop-place : goal.invariant-loop-place
invariant-loop-place l = Fed l.initial.bytes l.initial.place l.input l.bytes l.place

abbrev pub decreases-loop-place : goal.decreases-loop-place
decreases-loop-place l = to_go l.place l.input
