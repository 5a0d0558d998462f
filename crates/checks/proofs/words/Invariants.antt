-- What is left, from what the number leaves, checks as all from the start; eight bytes a turn keep it.
use Rattle.checks.proofs.Turns.{Going}
use Rattle.checks.proofs.words.Given as goal

abbrev pub invariant-loop-word : goal.invariant-loop-word
invariant-loop-word g l = let p = g.P.Polynomial in Going p.WIDTH p.polynomial l.initial.number l.words l.number l.word-index
