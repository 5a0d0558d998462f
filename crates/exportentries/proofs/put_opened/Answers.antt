-- The numbers are the run's.
use Rattle.exportentries.proofs.Laws.{opened-there}
use borrow.Author.Rules.{rules}
use Rattle.exportentries.proofs.put_opened.Goals as goal

pub returns : goal.returns
returns c = search (opened-there, rules)
