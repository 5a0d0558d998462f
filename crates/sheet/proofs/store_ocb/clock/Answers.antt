-- The word is got once; its three codes are stored in the order of table 6.6.
use Rattle.sheet.proofs.StoringOcb.{cut}
use borrow.Author.Rules.{rules}
use Rattle.sheet.proofs.store_ocb.clock.Goals as goal

pub returns : goal.returns
returns c = search (cut, rules)
