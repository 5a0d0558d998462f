-- Each number is at its place.
use Rattle.exportdesk.proofs.Thirteen.{solution-at}
use borrow.Author.Rules.{rules}
use Rattle.exportdesk.proofs.states.solution_at.Goals as goal

pub returns : goal.returns
returns c = search (solution-at, rules)
