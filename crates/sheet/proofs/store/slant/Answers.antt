-- Its fields in the order of table 6.20.
use Rattle.sheet.proofs.Storing.{ends-near, ends_next, slant-stored}
use borrow.Author.Rules.{rules}
use Rattle.sheet.proofs.store.slant.Goals as goal

pub i_grid-requires : goal.i_grid-requires
i_grid-requires c = search (ends-near, ends_next, rules)

pub returns : goal.returns
returns c = search (slant-stored, rules)
