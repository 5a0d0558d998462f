-- SF071 has 2 bits.
use Rattle.quick.specs.Bpac.{count_fits, count-is}
use borrow.Author.Rules.{rules}
use Rattle.quick.proofs.for_bpac.area_count.Goals as goal

pub overflow_add-result : goal.overflow_add-result
overflow_add-result c = search (count_fits, rules)

pub returns : goal.returns
returns c = search (count-is, rules)
