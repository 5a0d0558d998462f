-- Its fields in the order of table 6.3.
use Rattle.sheet.proofs.StoringOcb.{behind-stored}
use borrow.Author.Rules.{rules}
use Rattle.sheet.proofs.store_ocb.behind_head.Goals as goal

pub returns : goal.returns
returns c = search (behind-stored, rules)
