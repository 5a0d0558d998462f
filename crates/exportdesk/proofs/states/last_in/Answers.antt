-- None yet, or at its second.
use Rattle.exportdesk.proofs.Thirteen.{last-never, last-at}
use borrow.Author.Rules.{rules}
use Rattle.exportdesk.proofs.states.last_in.Goals as goal

pub returns-then-dated-eq0 : goal.returns-then-dated-eq0
returns-then-dated-eq0 c = search (last-never, rules)

pub returns : goal.returns
returns c = search (last-at, rules)
