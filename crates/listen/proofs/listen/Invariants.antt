-- The portions so far are told, and each turn is a read; the turns that are left fall.
use Rattle.listen.proofs.Turns.{Listening}
use Rattle.listen.proofs.listen.Given as goal

abbrev pub invariant-loop-turns : goal.invariant-loop-turns
invariant-loop-turns l = Listening l.initial.bytes l.initial.input l.initial.out l.bytes l.input l.out l.turn l.turns

abbrev pub decreases-loop-turns : goal.decreases-loop-turns
decreases-loop-turns l = l.turns
