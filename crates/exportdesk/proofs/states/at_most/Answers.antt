-- The lesser of the two.
use Rattle.export.proofs.Laws.{most-is}
use borrow.Author.Rules.{rules}
use Rattle.exportdesk.proofs.states.at_most.Goals as goal

pub returns : goal.returns
returns c = search (most-is, rules)
