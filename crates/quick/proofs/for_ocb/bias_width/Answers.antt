-- Every bias mask has 64 bits at most.
use Rattle.quick.specs.Ocb.{bias-small}
use borrow.Author.Rules.{rules}
use Rattle.quick.proofs.for_ocb.bias_width.Goals as goal

pub returns : goal.returns
returns c = search (bias-small, rules)
