-- The struct is the definition, its words what the calls gave.
use Rattle.rows.specs.Along.{row_made}
use borrow.Author.Rules.{rules}
use Rattle.ocb.proofs.row.blocks_row.Goals as goal

pub returns : goal.returns
returns c = search (row_made, rules)
