-- SF030 has 5 bits.
use borrow.Author.Rules.{rules}
use Rattle.quick.specs.Gad.{count_fits, count-is}
use Rattle.quick.proofs.for_gad.block_count.Goals as goal

pub overflow_add-result : goal.overflow_add-result
overflow_add-result c = search (count_fits, rules)

pub returns : goal.returns
returns c = search (count-is, rules)
