-- The callee's contract, with what the inner call gave put in.
use Rattle.ocb.specs.Machine.{codes-of}
use borrow.Author.Rules.{rules}
use Rattle.ocb.proofs.code_mask_read.Goals as goal

pub returns : goal.returns
returns c = search (codes-of, rules)
