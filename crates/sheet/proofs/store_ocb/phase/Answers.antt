-- The word is got once; its three codes are stored in the order of table 6.12.
use Rattle.sheet.proofs.StoringOcb.{cut}
use borrow.Author.Rules.{rules}
use Rattle.sheet.proofs.store_ocb.phase.Goals as goal

pub returns : goal.returns
returns c = search (cut, rules)
