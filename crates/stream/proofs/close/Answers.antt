use Rattle.stream.specs.Walk.{closed_from}
use Rattle.stream.proofs.Loop.{far-answered}
use borrow.Author.Rules.{rules}
use Rattle.stream.proofs.close.Goals as goal

pub returns-in-Break : goal.returns-in-Break
returns-in-Break c = far-answered closed_from _ _ _ _ _ c.loop-place.invariant _ _ c.in-Break.ensures

pub returns : goal.returns
returns c = search (far-answered closed_from, rules)
