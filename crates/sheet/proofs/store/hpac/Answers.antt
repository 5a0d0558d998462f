-- Its fields in the order of table 6.13.
use Rattle.sheet.proofs.Storing.{hpac-stored}
use borrow.Author.Rules.{rules}
use Rattle.sheet.proofs.store.hpac.Goals as goal

pub returns : goal.returns
returns c = search (hpac-stored, rules)
