-- `block_count`: the field is there, and has five bits.
use Rattle.book.proofs.Blocks.{count_fits, count-is, count-few}
use borrow.Author.Rules.{rules}
use Rattle.book.proofs.block_count.Goals as goal

pub overflow_add-result : goal.overflow_add-result
overflow_add-result c = record { fits = search (count_fits, rules) }

pub returns : goal.returns
returns c = search (count-is, count-few, rules)
