-- A slice is too short, or what was told is what the call below answers.
use Rattle.exportentries.specs.Entries.{told_residual}
use Rattle.exportviews.proofs.Laws.{number-no-view, view-no-view, floats-no-view, number-no-floats, view-no-floats, floats-no-floats, number_by, view-by, floats-by}
use borrow.Author.Rules.{rules}
use Rattle.exportentries.proofs.homralgyu_entry_troposphere.Goals as goal

pub returns-then-what-lt-UNIT-clause-value : goal.returns-then-what-lt-UNIT-clause-value
returns-then-what-lt-UNIT-clause-value c = search (number-no-view, rules)

pub returns-then-what-lt-UNIT-clause-what_after : goal.returns-then-what-lt-UNIT-clause-what_after
returns-then-what-lt-UNIT-clause-what_after c = search (view-no-view, rules)

pub returns-then-what-lt-UNIT-clause-value_after : goal.returns-then-what-lt-UNIT-clause-value_after
returns-then-what-lt-UNIT-clause-value_after c = search (floats-no-view, rules)

pub returns-then-value-lt-VALUE-clause-value : goal.returns-then-value-lt-VALUE-clause-value
returns-then-value-lt-VALUE-clause-value c = search (number-no-floats, rules)

pub returns-then-value-lt-VALUE-clause-what_after : goal.returns-then-value-lt-VALUE-clause-what_after
returns-then-value-lt-VALUE-clause-what_after c = search (view-no-floats, rules)

pub returns-then-value-lt-VALUE-clause-value_after : goal.returns-then-value-lt-VALUE-clause-value_after
returns-then-value-lt-VALUE-clause-value_after c = search (floats-no-floats, rules)

pub returns-clause-value : goal.returns-clause-value
returns-clause-value c = search (number_by told_residual, rules)

pub returns-clause-what_after : goal.returns-clause-what_after
returns-clause-what_after c = search (view-by told_residual, rules)

pub returns-clause-value_after : goal.returns-clause-value_after
returns-clause-value_after c = search (floats-by told_residual, rules)
