-- The mask, and a phase bias for each bit that it has set.
use Rattle.sheet.proofs.StoringOcb.{phases-stored}
use borrow.Author.Rules.{rules}
use Rattle.sheet.proofs.store_ocb.phases.Goals as goal

pub returns : goal.returns
returns c = search (phases-stored, rules)
