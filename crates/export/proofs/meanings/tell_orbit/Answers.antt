-- A case for each answer.
use Rattle.export.specs.Meanings.{told_orbit, floats_of_orbit}
use Rattle.export.proofs.Laws.{arm, arm-of}
use borrow.Author.Rules.{rules}
use Rattle.export.proofs.meanings.tell_orbit.Goals as goal

pub returns-in-Ok-clause-value : goal.returns-in-Ok-clause-value
unfolding told_orbit floats_of_orbit
returns-in-Ok-clause-value c = search (arm told_orbit, rules)

pub returns-in-Ok-clause-orbit_after : goal.returns-in-Ok-clause-orbit_after
unfolding told_orbit floats_of_orbit
returns-in-Ok-clause-orbit_after c = search (arm-of floats_of_orbit, rules)

pub returns-in-Err-clause-value : goal.returns-in-Err-clause-value
unfolding told_orbit floats_of_orbit
returns-in-Err-clause-value c = search (arm told_orbit, rules)

pub returns-in-Err-clause-orbit_after : goal.returns-in-Err-clause-orbit_after
unfolding told_orbit floats_of_orbit
returns-in-Err-clause-orbit_after c = search (arm-of floats_of_orbit, rules)
