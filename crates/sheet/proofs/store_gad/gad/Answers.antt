-- The four codes of its head are parts of 19 bits, which are there if the message is accepted; there are 32 blocks at most.
use Rattle.sheet.proofs.StoringGad.{gad-stored}
use borrow.Author.Rules.{rules}
use Rattle.sheet.proofs.store_gad.gad.Goals as goal

pub returns : goal.returns
returns c = search (gad-stored, rules)
