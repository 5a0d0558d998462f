-- A slice is too short, or what was told is what the call below answers.
use Rattle.exportviews.specs.Satellites.{told_satellite}
use Rattle.exportviews.proofs.Laws.{number-no-view, view-no-view, floats-no-view, number-no-floats, view-no-floats, floats-no-floats, number_by, view-by, floats-by}
use borrow.Author.Rules.{rules}
use Rattle.exportviews.proofs.satellites.homralgyu_satellite_at.Goals as goal

pub returns-then-view-lt-SATELLITE-clause-value : goal.returns-then-view-lt-SATELLITE-clause-value
returns-then-view-lt-SATELLITE-clause-value c = search (number-no-view, rules)

pub returns-then-view-lt-SATELLITE-clause-view_after : goal.returns-then-view-lt-SATELLITE-clause-view_after
returns-then-view-lt-SATELLITE-clause-view_after c = search (view-no-view, rules)

pub returns-then-view-lt-SATELLITE-clause-floats_after : goal.returns-then-view-lt-SATELLITE-clause-floats_after
returns-then-view-lt-SATELLITE-clause-floats_after c = search (floats-no-view, rules)

pub returns-then-floats-lt-SATELLITE_FLOATS-clause-value : goal.returns-then-floats-lt-SATELLITE_FLOATS-clause-value
returns-then-floats-lt-SATELLITE_FLOATS-clause-value c = search (number-no-floats, rules)

pub returns-then-floats-lt-SATELLITE_FLOATS-clause-view_after : goal.returns-then-floats-lt-SATELLITE_FLOATS-clause-view_after
returns-then-floats-lt-SATELLITE_FLOATS-clause-view_after c = search (view-no-floats, rules)

pub returns-then-floats-lt-SATELLITE_FLOATS-clause-floats_after : goal.returns-then-floats-lt-SATELLITE_FLOATS-clause-floats_after
returns-then-floats-lt-SATELLITE_FLOATS-clause-floats_after c = search (floats-no-floats, rules)

pub returns-clause-value : goal.returns-clause-value
returns-clause-value c = search (number_by told_satellite, rules)

pub returns-clause-view_after : goal.returns-clause-view_after
returns-clause-view_after c = search (view-by told_satellite, rules)

pub returns-clause-floats_after : goal.returns-clause-floats_after
returns-clause-floats_after c = search (floats-by told_satellite, rules)
