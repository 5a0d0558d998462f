-- A case for each answer.
use Rattle.exportentries.specs.Entries.{told_residual}
use Rattle.export.proofs.Laws.{laid_none}
use Rattle.exportviews.proofs.Laws.{number_of, numbers_of, floats-of}
use borrow.Author.Rules.{rules}
use Rattle.exportentries.proofs.tell_residual.Goals as goal

pub returns-in-Ok-clause-value : goal.returns-in-Ok-clause-value
unfolding told_residual
returns-in-Ok-clause-value c = search (number_of told_residual, rules)

pub returns-in-Ok-clause-what_after : goal.returns-in-Ok-clause-what_after
unfolding told_residual
returns-in-Ok-clause-what_after c = search (numbers_of told_residual, rules)

pub returns-in-Ok-clause-value_after : goal.returns-in-Ok-clause-value_after
unfolding told_residual
returns-in-Ok-clause-value_after c = search (floats-of told_residual, rules)

pub returns-in-Err-clause-value : goal.returns-in-Err-clause-value
unfolding told_residual
returns-in-Err-clause-value c = search (number_of told_residual, rules)

pub returns-in-Err-clause-what_after : goal.returns-in-Err-clause-what_after
unfolding told_residual
returns-in-Err-clause-what_after c = search (numbers_of told_residual, laid_none, rules)

pub returns-in-Err-clause-value_after : goal.returns-in-Err-clause-value_after
unfolding told_residual
returns-in-Err-clause-value_after c = search (floats-of told_residual, laid_none, rules)
