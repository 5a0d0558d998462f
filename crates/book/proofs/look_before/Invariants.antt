-- `look_before`: what the blocks that are left say of the ID is what all say.
use Rattle.book.proofs.Blocks.{LookingBack}
use Rattle.book.proofs.look_before.Given as goal

abbrev pub invariant-loop-i : goal.invariant-loop-i
invariant-loop-i l = LookingBack l.payload l.id l.n l.i
