-- The product of the rows and the columns, less one.
use Rattle.sheet.proofs.StoringBpac.{last_fits, last_some, last-is}
use borrow.Author.Rules.{rules}
use Rattle.sheet.proofs.store_bpac.last_node.Goals as goal

pub overflow_mul-result : goal.overflow_mul-result
overflow_mul-result c = search (last_fits, rules)

pub overflow_sub-result : goal.overflow_sub-result
overflow_sub-result c = search (last_some, rules)

pub returns : goal.returns
returns c = search (last-is, rules)
