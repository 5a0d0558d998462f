-- `block`: the field is there, and near the end it is a part of the last 64 bits.
use Rattle.book.proofs.Blocks.{block-is, block-small, last-is, last-small}
use borrow.Author.Rules.{rules}
use Rattle.book.proofs.block.Goals as goal

pub returns-then-pos-payload : goal.returns-then-pos-payload
returns-then-pos-payload c = search (block-is, block-small, rules)

pub returns : goal.returns
returns c = search (last-is, last-small, rules)
