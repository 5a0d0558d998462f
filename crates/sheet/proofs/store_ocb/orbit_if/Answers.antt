-- Where SF014 says so.
use Rattle.sheet.proofs.StoringOcb.{orbit-there, orbit-absent}
use borrow.Author.Rules.{rules}
use Rattle.sheet.proofs.store_ocb.orbit_if.Goals as goal

pub returns-then-present-eq1 : goal.returns-then-present-eq1
returns-then-present-eq1 c = search (orbit-there, rules)

pub returns : goal.returns
returns c = search (orbit-absent, rules)
