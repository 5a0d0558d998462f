-- The word is got once; its three codes are stored in their order.
use Rattle.sheet.proofs.StoringOcb.{cut}
use borrow.Author.Rules.{rules}
use Rattle.sheet.proofs.store_ocb.corrections.Goals as goal

pub returns : goal.returns
returns c = search (cut, rules)
