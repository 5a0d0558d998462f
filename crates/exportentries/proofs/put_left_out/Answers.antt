-- The numbers are the area's.
use Rattle.exportentries.proofs.Laws.{left-out-there}
use borrow.Author.Rules.{rules}
use Rattle.exportentries.proofs.put_left_out.Goals as goal

pub returns : goal.returns
returns c = search (left-out-there, rules)
