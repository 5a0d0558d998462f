-- The desk is made by the numbers in their order.
use Rattle.runlog.proofs.Wanting.{job-log, job-nothing}
use borrow.Author.Rules.{rules}
use Rattle.runlog.proofs.desk_for.Goals as goal

pub returns : goal.returns
returns c = search (job-log, c.in_ok-log.was, rules)

pub returns-in_err-log : goal.returns-in_err-log
returns-in_err-log c = rw c.from_residual.ensures (search (job-nothing, c.in_err-log.was, rules))
