-- A grid has its size code and a residual for each point.
use Rattle.quick.proofs.Passing.{grid-there, grid-absent}
use borrow.Author.Rules.{rules}
use Rattle.quick.proofs.for_hpac.grid_entries.Goals as goal

pub returns-then-grids : goal.returns-then-grids
returns-then-grids c = search (grid-there, rules)

pub returns : goal.returns
returns c = search (grid-absent, rules)
