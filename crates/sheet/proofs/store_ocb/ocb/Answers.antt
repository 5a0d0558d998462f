-- Its fields in the order of table 6.3.
use Rattle.sheet.proofs.StoringOcb.{ocb-stored}
use borrow.Author.Rules.{rules}
use Rattle.sheet.proofs.store_ocb.ocb.Goals as goal

pub returns : goal.returns
returns c = search (ocb-stored, rules)
