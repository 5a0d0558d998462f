-- `judge_block`: AREA_OFF first, and then by what is known of the ID.
use Rattle.book.proofs.Blocks.{block-off, block_on}
use borrow.Author.Rules.{rules}
use Rattle.book.proofs.judge_block.Goals as goal

pub returns-then-is_off : goal.returns-then-is_off
returns-then-is_off c = search (block-off, rules)

pub returns : goal.returns
returns c = search (block_on, rules)
