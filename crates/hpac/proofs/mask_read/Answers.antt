-- The callee's contract, with what the inner call gave put in.
use Rattle.hpac.specs.Machine.{slants-of}
use borrow.Author.Rules.{rules}
use Rattle.hpac.proofs.mask_read.Goals as goal

pub returns : goal.returns
returns c = search (slants-of, rules)
