-- Every satellite mask has 64 bits at most.
use Rattle.quick.specs.Ocb.{mask-small}
use borrow.Author.Rules.{rules}
use Rattle.quick.proofs.for_ocb.mask_width.Goals as goal

pub returns : goal.returns
returns c = search (mask-small, rules)
