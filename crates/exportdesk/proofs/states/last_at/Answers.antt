-- Each number is at its place.
use Rattle.exportdesk.proofs.Thirteen.{second_at}
use borrow.Author.Rules.{rules}
use Rattle.exportdesk.proofs.states.last_at.Goals as goal

pub returns : goal.returns
returns c = search (second_at, rules)
