-- The mask, and a code bias for each bit that it has set.
use Rattle.sheet.proofs.StoringOcb.{codes-stored}
use borrow.Author.Rules.{rules}
use Rattle.sheet.proofs.store_ocb.code_biases.Goals as goal

pub returns : goal.returns
returns c = search (codes-stored, rules)
