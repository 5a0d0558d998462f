-- Each code in its entry, one after the other.
use Rattle.sheet.proofs.StoringGad.{grid-put}
use borrow.Author.Rules.{rules}
use Rattle.sheet.proofs.store_gad.put_grid.Goals as goal

pub returns : goal.returns
returns c = search (grid-put, rules)
