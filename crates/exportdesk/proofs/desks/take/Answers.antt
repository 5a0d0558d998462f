-- The desk is the one that the numbers say.
use Rattle.exportdesk.proofs.Telling.{take-of, take-live, take-run, take-log}
use borrow.Author.Rules.{rules}
use Rattle.exportdesk.proofs.desks.take.Goals as goal

pub returns-clause-value : goal.returns-clause-value
returns-clause-value c = search (take-of, rules)

pub returns-clause-live_after : goal.returns-clause-live_after
returns-clause-live_after c = search (take-live, rules)

pub returns-clause-run_after : goal.returns-clause-run_after
returns-clause-run_after c = search (take-run, rules)

pub returns-clause-log_after : goal.returns-clause-log_after
returns-clause-log_after c = search (take-log, rules)
