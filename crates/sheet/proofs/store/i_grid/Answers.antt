-- The size code and a residual for each point, where there are grids; no residual has more than 16 bits.
use Rattle.sheet.proofs.Storing.{i-few, i-mul, i-add, i-gridded, i-plain}
use borrow.Author.Rules.{rules}
use Rattle.sheet.proofs.store.i_grid.Goals as goal

pub stretch-requires : goal.stretch-requires
stretch-requires c = search (i-few, rules)

pub overflow_mul-result : goal.overflow_mul-result
overflow_mul-result c = search (i-mul, rules)

pub overflow_add-result-then-blocks-ge2 : goal.overflow_add-result-then-blocks-ge2
overflow_add-result-then-blocks-ge2 c = search (i-add, rules)

pub returns-then-blocks-ge2 : goal.returns-then-blocks-ge2
returns-then-blocks-ge2 c = search (i-gridded, rules)

pub returns : goal.returns
returns c = search (i-plain, rules)
