use borrow.Author.Rules.{rules}
use Rattle.stream.proofs.Skipping.{skip-on}
use Rattle.stream.proofs.skip.Goals as goal

pub loop-wanted-preserved : goal.loop-wanted-preserved
loop-wanted-preserved c = skip-on _ _ _ c.loop-wanted.invariant (search rules) _ c.in-Some.ensures _ c.reach.ensures _ c.noisy-place.ensures
