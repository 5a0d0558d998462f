-- The word that the equation cuts is the one that the size picks.
use Rattle.hpac.specs.Rows.{polynomial-of}
use borrow.Author.Rules.{rules}
use Rattle.hpac.proofs.row.polynomial_cells.Goals as goal

pub returns : goal.returns
returns c = search (polynomial-of, rules)
