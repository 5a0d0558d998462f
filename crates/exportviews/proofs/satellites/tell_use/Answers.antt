-- Out of use, or in use.
use Rattle.exportviews.specs.Satellites.{use_numbers, use_floats}
use Rattle.export.proofs.Laws.{laid_none}
use Rattle.exportviews.proofs.Laws.{use-numbers, use-floats}
use borrow.Author.Rules.{rules}
use Rattle.exportviews.proofs.satellites.tell_use.Goals as goal

pub returns-in-OutOfUse-clause-view_after : goal.returns-in-OutOfUse-clause-view_after
unfolding use_numbers use_floats
returns-in-OutOfUse-clause-view_after c = search (use-numbers, rules)

pub returns-in-OutOfUse-clause-floats_after : goal.returns-in-OutOfUse-clause-floats_after
unfolding use_numbers use_floats
returns-in-OutOfUse-clause-floats_after c = search (use-floats, laid_none, rules)

pub returns-in-InUse-clause-view_after : goal.returns-in-InUse-clause-view_after
unfolding use_numbers use_floats
returns-in-InUse-clause-view_after c = search (use-numbers, rules)

pub returns-in-InUse-clause-floats_after : goal.returns-in-InUse-clause-floats_after
unfolding use_numbers use_floats
returns-in-InUse-clause-floats_after c = search (use-floats, rules)
