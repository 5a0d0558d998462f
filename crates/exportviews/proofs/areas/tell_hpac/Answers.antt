-- A case for each answer.
use Rattle.exportviews.specs.Areas.{told_hpac}
use Rattle.export.proofs.Laws.{number_in, numbers-in, laid_none}
use borrow.Author.Rules.{rules}
use Rattle.exportviews.proofs.areas.tell_hpac.Goals as goal

pub returns-in-Ok-Some : goal.returns-in-Ok-Some
unfolding told_hpac
returns-in-Ok-Some c = search (number_in told_hpac, numbers-in told_hpac, rules)

pub returns-in-Ok-None : goal.returns-in-Ok-None
unfolding told_hpac
returns-in-Ok-None c = search (number_in told_hpac, numbers-in told_hpac, rules)

pub returns-in-Err : goal.returns-in-Err
unfolding told_hpac
returns-in-Err c = search (number_in told_hpac, numbers-in told_hpac, laid_none, rules)
