-- A case for each answer.
use Rattle.exportviews.specs.Areas.{told_gad}
use Rattle.export.proofs.Laws.{laid_none}
use Rattle.exportviews.proofs.Laws.{number_of, numbers_of, floats-of}
use borrow.Author.Rules.{rules}
use Rattle.exportviews.proofs.areas.tell_gad.Goals as goal

pub returns-in-Ok-Some-clause-value : goal.returns-in-Ok-Some-clause-value
unfolding told_gad
returns-in-Ok-Some-clause-value c = search (number_of told_gad, rules)

pub returns-in-Ok-Some-clause-view_after : goal.returns-in-Ok-Some-clause-view_after
unfolding told_gad
returns-in-Ok-Some-clause-view_after c = search (numbers_of told_gad, rules)

pub returns-in-Ok-Some-clause-floats_after : goal.returns-in-Ok-Some-clause-floats_after
unfolding told_gad
returns-in-Ok-Some-clause-floats_after c = search (floats-of told_gad, rules)

pub returns-in-Ok-None-clause-value : goal.returns-in-Ok-None-clause-value
unfolding told_gad
returns-in-Ok-None-clause-value c = search (number_of told_gad, rules)

pub returns-in-Ok-None-clause-view_after : goal.returns-in-Ok-None-clause-view_after
unfolding told_gad
returns-in-Ok-None-clause-view_after c = search (numbers_of told_gad, rules)

pub returns-in-Ok-None-clause-floats_after : goal.returns-in-Ok-None-clause-floats_after
unfolding told_gad
returns-in-Ok-None-clause-floats_after c = search (floats-of told_gad, laid_none, rules)

pub returns-in-Err-clause-value : goal.returns-in-Err-clause-value
unfolding told_gad
returns-in-Err-clause-value c = search (number_of told_gad, rules)

pub returns-in-Err-clause-view_after : goal.returns-in-Err-clause-view_after
unfolding told_gad
returns-in-Err-clause-view_after c = search (numbers_of told_gad, laid_none, rules)

pub returns-in-Err-clause-floats_after : goal.returns-in-Err-clause-floats_after
unfolding told_gad
returns-in-Err-clause-floats_after c = search (floats-of told_gad, laid_none, rules)
