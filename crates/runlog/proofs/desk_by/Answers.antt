-- A desk that was made runs.
use Rattle.runlog.proofs.Wanting.{job-usage, job-run}
use borrow.Author.Rules.{rules}
use Rattle.runlog.proofs.desk_by.Goals as goal

pub returns-in-Err : goal.returns-in-Err
returns-in-Err c = search (job-usage, rules)

pub returns-in-Ok : goal.returns-in-Ok
returns-in-Ok c = search (job-run, rules)
