-- Its three codes are parts of the 16 bits.
use Rattle.sheet.proofs.StoringBpac.{vtec-once}
use borrow.Author.Rules.{rules}
use Rattle.sheet.proofs.store_bpac.vtec_at_once.Goals as goal

pub returns : goal.returns
returns c = search (vtec-once, rules)
