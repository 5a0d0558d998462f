-- Where SF014 says so.
use Rattle.sheet.proofs.StoringOcb.{clock-there, clock-absent}
use borrow.Author.Rules.{rules}
use Rattle.sheet.proofs.store_ocb.clock_if.Goals as goal

pub returns-then-present-eq1 : goal.returns-then-present-eq1
returns-then-present-eq1 c = search (clock-there, rules)

pub returns : goal.returns
returns c = search (clock-absent, rules)
