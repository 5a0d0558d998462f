-- A case for each thing that is said.
use Rattle.exportdesk.specs.Desks.{told_said}
use Rattle.export.proofs.Laws.{laid_none}
use Rattle.exportdesk.proofs.Telling.{said-number, said-numbers}
use Rattle.exportdesk.specs.Stored.{desk-there}
use borrow.Author.Rules.{rules}
use Rattle.exportdesk.proofs.desks.tell_taken.Goals as goal

pub returns-in-Ok : goal.returns-in-Ok
unfolding told_said
returns-in-Ok c = search (said-number, said-numbers, desk-there, rules)

pub returns-in-Err : goal.returns-in-Err
unfolding told_said
returns-in-Err c = search (said-number, said-numbers, laid_none, rules)
