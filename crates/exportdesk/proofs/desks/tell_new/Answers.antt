-- A case for each answer.
use Rattle.exportdesk.specs.Desks.{told_new}
use Rattle.export.proofs.Laws.{number_in, numbers-in, laid_none}
use Rattle.exportdesk.specs.Stored.{desk-there}
use borrow.Author.Rules.{rules}
use Rattle.exportdesk.proofs.desks.tell_new.Goals as goal

pub returns-in-Ok : goal.returns-in-Ok
unfolding told_new
returns-in-Ok c = search (number_in told_new, numbers-in told_new, desk-there, rules)

pub returns-in-Err : goal.returns-in-Err
unfolding told_new
returns-in-Err c = search (number_in told_new, numbers-in told_new, laid_none, rules)
