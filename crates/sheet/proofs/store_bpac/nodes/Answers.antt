-- The groups of 64, the last group, and a block for each bit set.
use Rattle.sheet.proofs.StoringBpac.{nodes-few, nodes-stored}
use borrow.Author.Rules.{rules}
use Rattle.sheet.proofs.store_bpac.nodes.Goals as goal

pub vtecs-requires : goal.vtecs-requires
vtecs-requires c = search (nodes-few, rules)

pub returns : goal.returns
returns c = search (nodes-stored, rules)
