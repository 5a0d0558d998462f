-- The numbers and the floats are the blocks'.
use Rattle.exportviews.specs.Satellites.{blocks_numbers, blocks_floats}
use Rattle.export.specs.Stored.{laid-there}
use borrow.Author.Rules.{rules}
use Rattle.exportviews.proofs.satellites.put_blocks.Goals as goal

pub returns-clause-view_after : goal.returns-clause-view_after
unfolding blocks_numbers blocks_floats
returns-clause-view_after c = search (laid-there, rules)

pub returns-clause-floats_after : goal.returns-clause-floats_after
unfolding blocks_numbers blocks_floats
returns-clause-floats_after c = search (laid-there, rules)
