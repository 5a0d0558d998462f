-- Its fields in the order of table 6.15.
use Rattle.sheet.proofs.Storing.{a-near, a-next, blocks-stored}
use borrow.Author.Rules.{rules}
use Rattle.sheet.proofs.store.blocks_of.Goals as goal

pub ionosphere-requires : goal.ionosphere-requires
ionosphere-requires c = search (a-near, a-next, rules)

pub returns : goal.returns
returns c = search (blocks-stored, rules)
