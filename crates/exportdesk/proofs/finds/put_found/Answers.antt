-- The count of bytes.
use Rattle.exportdesk.specs.Finds.{count_of}
use Rattle.export.proofs.Laws.{cons-as}
use Rattle.export.specs.Stored.{laid-there}
use borrow.Author.Rules.{rules}
use Rattle.exportdesk.proofs.finds.put_found.Goals as goal

pub returns : goal.returns
unfolding count_of
returns c = search (laid-there, cons-as, rules)
