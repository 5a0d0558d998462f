-- The callee's contract, with what the inner call gave put in.
use Rattle.ocb.specs.Machine.{phases-of}
use borrow.Author.Rules.{rules}
use Rattle.ocb.proofs.phase_mask_read.Goals as goal

pub returns : goal.returns
returns c = search (phases-of, rules)
