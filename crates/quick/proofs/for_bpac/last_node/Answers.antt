-- The product of the rows and the columns, less one.
use Rattle.quick.specs.Bpac.{last-is}
use borrow.Author.Rules.{rules}
use Rattle.quick.proofs.for_bpac.last_node.Goals as goal

pub returns : goal.returns
returns c = search (last-is, rules)
