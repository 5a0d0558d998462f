-- The frame's bytes are there, since they were accepted (Returns.antt).
use Rattle.prepare.proofs.Returns.{frame-there}
use borrow.Author.Rules.{rules}
use Rattle.prepare.proofs.payload_first.Goals as goal

pub slice_bounds-payload_in-end : goal.slice_bounds-payload_in-end
slice_bounds-payload_in-end c = search (frame-there, rules)
