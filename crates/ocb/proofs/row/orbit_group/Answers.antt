-- The word is the definition's, its cells what the calls gave.
use Rattle.ocb.specs.Rows.{orbit-word}
use borrow.Author.Rules.{rules}
use Rattle.ocb.proofs.row.orbit_group.Goals as goal

pub returns : goal.returns
returns c = search (orbit-word, rules)
