-- Its fields in the order of table 6.16.
use Rattle.sheet.proofs.Storing.{t-near, t-next, t-stored}
use borrow.Author.Rules.{rules}
use Rattle.sheet.proofs.store.t_behind.Goals as goal

pub t_grid-requires : goal.t_grid-requires
t_grid-requires c = search (t-near, t-next, rules)

pub returns : goal.returns
returns c = search (t-stored, rules)
