-- The residuals where there are grids; no residual has more than 16 bits.
use Rattle.quick.proofs.Passing.{t-mul, t-add, t-none, t-grid, t-plain}
use borrow.Author.Rules.{rules}
use Rattle.quick.proofs.for_hpac.t_grid_behind.Goals as goal

pub returns-then-pos-eq0 : goal.returns-then-pos-eq0
returns-then-pos-eq0 c = search (t-none, rules)

pub overflow_mul-result : goal.overflow_mul-result
overflow_mul-result c = search (t-mul, rules)

pub overflow_add-result-then-grids : goal.overflow_add-result-then-grids
overflow_add-result-then-grids c = search (t-add, rules)

pub returns-then-grids : goal.returns-then-grids
returns-then-grids c = search (t-grid, rules)

pub returns : goal.returns
returns c = search (t-plain, rules)
