-- The numbers and the floats are the area's.
use Rattle.exportviews.specs.Areas.{bpac_numbers_of, bpac_floats_of}
use Rattle.export.specs.Stored.{laid-there}
use borrow.Author.Rules.{rules}
use Rattle.exportviews.proofs.areas.put_bpac.Goals as goal

pub returns-clause-view_after : goal.returns-clause-view_after
unfolding bpac_numbers_of bpac_floats_of
returns-clause-view_after c = search (laid-there, rules)

pub returns-clause-floats_after : goal.returns-clause-floats_after
unfolding bpac_numbers_of bpac_floats_of
returns-clause-floats_after c = search (laid-there, rules)
