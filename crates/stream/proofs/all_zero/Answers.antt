-- The whole blocks and the last block's bytes are all of them.
use Rattle.stream.proofs.Zeros.{blocks-not, blocks_last}
use borrow.Author.Rules.{rules}
use Rattle.stream.proofs.all_zero.Goals as goal

pub returns-then-not-are_zero : goal.returns-then-not-are_zero
returns-then-not-are_zero c = search (blocks-not, rules)

pub returns : goal.returns
returns c = search (blocks_last, rules)
