-- The numbers are the area's.
use Rattle.exportentries.proofs.Laws.{placed-there}
use borrow.Author.Rules.{rules}
use Rattle.exportentries.proofs.put_placed.Goals as goal

pub returns : goal.returns
returns c = search (placed-there, rules)
