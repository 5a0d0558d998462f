-- Its fields in the order of table 6.15; there are 127 points at most.
use Rattle.sheet.proofs.Storing.{points-few, area-stored}
use borrow.Author.Rules.{rules}
use Rattle.sheet.proofs.store.area.Goals as goal

pub blocks_of-requires : goal.blocks_of-requires
blocks_of-requires c = search (points-few, rules)

pub returns : goal.returns
returns c = search (area-stored, rules)
