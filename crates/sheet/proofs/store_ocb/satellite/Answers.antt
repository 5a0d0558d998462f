-- Nothing behind SF013 where it is set; else its fields in the order of table 6.4.
use Rattle.sheet.proofs.StoringOcb.{satellite-out, satellite-in}
use borrow.Author.Rules.{rules}
use Rattle.sheet.proofs.store_ocb.satellite.Goals as goal

pub returns-then-keep-eq1 : goal.returns-then-keep-eq1
returns-then-keep-eq1 c = search (satellite-out, rules)

pub returns : goal.returns
returns c = search (satellite-in, rules)
