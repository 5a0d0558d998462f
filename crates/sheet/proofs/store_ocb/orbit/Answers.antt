-- Its fields in the order of table 6.5.
use Rattle.sheet.proofs.StoringOcb.{orbit-stored}
use borrow.Author.Rules.{rules}
use Rattle.sheet.proofs.store_ocb.orbit.Goals as goal

pub returns : goal.returns
returns c = search (orbit-stored, rules)
