-- The polynomial, and the residuals where there are grids; no residual has more than 16 bits.
use Rattle.quick.proofs.Passing.{i-mul, i-add, slant-none, slant-grid, slant-plain}
use borrow.Author.Rules.{rules}
use Rattle.quick.proofs.for_hpac.slant_end.Goals as goal

pub returns-then-end-eq0 : goal.returns-then-end-eq0
returns-then-end-eq0 c = search (slant-none, rules)

pub overflow_mul-result : goal.overflow_mul-result
overflow_mul-result c = search (i-mul, rules)

pub overflow_add-result-then-grids : goal.overflow_add-result-then-grids
overflow_add-result-then-grids c = search (i-add, rules)

pub returns-then-grids : goal.returns-then-grids
returns-then-grids c = search (slant-grid, rules)

pub returns : goal.returns
returns c = search (slant-plain, rules)
