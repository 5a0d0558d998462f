-- The size code and a residual for each point, where there are grids; no residual has more than 16 bits.
use Rattle.sheet.proofs.Storing.{t-few, t-mul, t-add, t-gridded, t-plain}
use borrow.Author.Rules.{rules}
use Rattle.sheet.proofs.store.t_grid.Goals as goal

pub stretch-requires : goal.stretch-requires
stretch-requires c = search (t-few, rules)

pub overflow_mul-result : goal.overflow_mul-result
overflow_mul-result c = search (t-mul, rules)

pub overflow_add-result-then-blocks-ge2 : goal.overflow_add-result-then-blocks-ge2
overflow_add-result-then-blocks-ge2 c = search (t-add, rules)

pub returns-then-blocks-ge2 : goal.returns-then-blocks-ge2
returns-then-blocks-ge2 c = search (t-gridded, rules)

pub returns : goal.returns
returns c = search (t-plain, rules)
