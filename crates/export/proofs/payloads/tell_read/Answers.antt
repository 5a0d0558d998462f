-- A case for each answer.
use Rattle.export.specs.Payloads.{told_read}
use Rattle.export.proofs.Laws.{number_in, numbers-in, laid_none, cons-as}
use Rattle.export.specs.Stored.{laid-there}
use borrow.Author.Rules.{rules}
use Rattle.export.proofs.payloads.tell_read.Goals as goal

pub returns-in-Ok : goal.returns-in-Ok
unfolding told_read
returns-in-Ok c = search (number_in told_read, numbers-in told_read, laid-there, cons-as, rules)

pub returns-in-Err : goal.returns-in-Err
unfolding told_read
returns-in-Err c = search (number_in told_read, numbers-in told_read, laid_none, rules)
