-- With n not 0 the state counts one less.
use Rattle.bpac.specs.Machine.{blocks_more}
use borrow.Author.Rules.{rules}
use Rattle.bpac.proofs.blocks_from.Goals as goal

pub returns : goal.returns
returns c = search (blocks_more, rules)
