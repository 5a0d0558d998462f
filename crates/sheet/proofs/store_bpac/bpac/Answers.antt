-- The four codes of its head are parts of 14 bits, which are there if the message is accepted; there are 4 areas at most.
use Rattle.sheet.proofs.StoringBpac.{bpac-stored}
use borrow.Author.Rules.{rules}
use Rattle.sheet.proofs.store_bpac.bpac.Goals as goal

pub returns : goal.returns
returns c = search (bpac-stored, rules)
