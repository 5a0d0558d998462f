-- The slice is too short, or what was told is what the call below answers.
use Rattle.export.specs.Meanings.{told_orbit, floats_of_orbit}
use Rattle.export.proofs.Laws.{short-is, enough-is, is-told, is-left}
use borrow.Author.Rules.{rules}
use Rattle.export.proofs.meanings.homralgyu_orbit.Goals as goal

pub returns-then-orbit-lt-ORBIT-clause-value : goal.returns-then-orbit-lt-ORBIT-clause-value
returns-then-orbit-lt-ORBIT-clause-value c = search (short-is, rules)

pub returns-then-orbit-lt-ORBIT-clause-orbit_after : goal.returns-then-orbit-lt-ORBIT-clause-orbit_after
returns-then-orbit-lt-ORBIT-clause-orbit_after c = search (short-is, rules)

pub returns-clause-value : goal.returns-clause-value
returns-clause-value c = search (enough-is, is-told told_orbit, rules)

pub returns-clause-orbit_after : goal.returns-clause-orbit_after
returns-clause-orbit_after c = search (enough-is, is-left floats_of_orbit, rules)
