-- A case for each answer.
use Rattle.exportviews.specs.Satellites.{told_satellite}
use Rattle.export.proofs.Laws.{laid_none}
use Rattle.exportviews.proofs.Laws.{number_of, numbers_of, floats-of}
use borrow.Author.Rules.{rules}
use Rattle.exportviews.proofs.satellites.tell_satellite.Goals as goal

pub returns-in-Ok-clause-value : goal.returns-in-Ok-clause-value
unfolding told_satellite
returns-in-Ok-clause-value c = search (number_of told_satellite, rules)

pub returns-in-Ok-clause-view_after : goal.returns-in-Ok-clause-view_after
unfolding told_satellite
returns-in-Ok-clause-view_after c = search (numbers_of told_satellite, rules)

pub returns-in-Ok-clause-floats_after : goal.returns-in-Ok-clause-floats_after
unfolding told_satellite
returns-in-Ok-clause-floats_after c = search (floats-of told_satellite, rules)

pub returns-in-Err-clause-value : goal.returns-in-Err-clause-value
unfolding told_satellite
returns-in-Err-clause-value c = search (number_of told_satellite, rules)

pub returns-in-Err-clause-view_after : goal.returns-in-Err-clause-view_after
unfolding told_satellite
returns-in-Err-clause-view_after c = search (numbers_of told_satellite, laid_none, rules)

pub returns-in-Err-clause-floats_after : goal.returns-in-Err-clause-floats_after
unfolding told_satellite
returns-in-Err-clause-floats_after c = search (floats-of told_satellite, laid_none, rules)
