-- The size, then the bits.
use Rattle.quick.specs.Ocb.{mask_is}
use borrow.Author.Rules.{rules}
use Rattle.quick.proofs.for_ocb.bias_mask.Goals as goal

pub returns : goal.returns
returns c = search (mask_is, rules)
