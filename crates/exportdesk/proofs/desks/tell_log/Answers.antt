-- A case for each thing that is said.
use Rattle.export.specs.Numbers.{laid}
use Rattle.exportdesk.specs.Desks.{log_told}
use Rattle.desk.specs.Results.{Said}
use Rattle.export.proofs.Laws.{arm-of, cons-as, laid_none}
use Rattle.export.specs.Stored.{laid-there}
use borrow.Author.Rules.{rules}
use Rattle.exportdesk.proofs.desks.tell_log.Goals as goal

pub returns-in-Ok : goal.returns-in-Ok
unfolding log_told
returns-in-Ok c = search (arm-of (λ (s : Said). laid (log_told s)), laid-there, cons-as, rules)

pub returns-in-Err : goal.returns-in-Err
unfolding log_told
returns-in-Err c = search (arm-of (λ (s : Said). laid (log_told s)), laid_none, rules)
