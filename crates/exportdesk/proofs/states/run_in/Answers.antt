-- The flag says whether a run is open.
use Rattle.exportdesk.proofs.Thirteen.{run-closed, run-open}
use borrow.Author.Rules.{rules}
use Rattle.exportdesk.proofs.states.run_in.Goals as goal

pub returns-then-flag-eq0 : goal.returns-then-flag-eq0
returns-then-flag-eq0 c = search (run-closed, rules)

pub returns : goal.returns
returns c = search (run-open, rules)
