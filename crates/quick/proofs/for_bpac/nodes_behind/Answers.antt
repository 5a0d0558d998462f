-- The groups of 64, the last group, the blocks.
use Rattle.quick.specs.Bpac.{nodes-is}
use borrow.Author.Rules.{rules}
use Rattle.quick.proofs.for_bpac.nodes_behind.Goals as goal

pub returns : goal.returns
returns c = search (nodes-is, rules)
