-- The layout of a subtype is that of its constellation.
use Rattle.sheet.proofs.StoringOcb.{filled-ocb, filled-no-ocb}
use borrow.Author.Rules.{rules}
use Rattle.sheet.proofs.store_ocb_codes.Goals as goal

pub returns-in-Some : goal.returns-in-Some
returns-in-Some c = search (filled-ocb, filled-no-ocb, rules)

pub returns-in-None : goal.returns-in-None
returns-in-None c = search (filled-ocb, filled-no-ocb, rules)
