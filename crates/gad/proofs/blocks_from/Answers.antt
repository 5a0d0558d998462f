-- With n not 0 the state counts one less.
use borrow.Author.Rules.{rules}
use Rattle.gad.specs.Machine.{blocks_more}
use Rattle.gad.proofs.blocks_from.Goals as goal

pub returns : goal.returns
returns c = search (blocks_more, rules)
