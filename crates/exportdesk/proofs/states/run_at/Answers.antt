-- Each number is at its place.
use Rattle.exportdesk.proofs.Thirteen.{run_at}
use borrow.Author.Rules.{rules}
use Rattle.exportdesk.proofs.states.run_at.Goals as goal

pub returns : goal.returns
returns c = search (run_at, rules)
