-- Its parts in the order of table 6.4.
use Rattle.sheet.proofs.StoringOcb.{orbit-near, orbit-next, clock-near, clock-next, blocks-stored}
use borrow.Author.Rules.{rules}
use Rattle.sheet.proofs.store_ocb.blocks.Goals as goal

pub clock_if-clock-requires : goal.clock_if-clock-requires
clock_if-clock-requires c = search (orbit-near, orbit-next, rules)

pub bias_if-requires : goal.bias_if-requires
bias_if-requires c = search (clock-near, clock-next, rules)

pub returns : goal.returns
returns c = search (blocks-stored, rules)
