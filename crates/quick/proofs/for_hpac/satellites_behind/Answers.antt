-- The mask is not empty; each satellite has as many entries as the next.
use Rattle.quick.proofs.Passing.{each-mul, each-add, satellites-none, satellites-there}
use borrow.Author.Rules.{rules}
use Rattle.quick.proofs.for_hpac.satellites_behind.Goals as goal

pub returns-then-mask-eq0 : goal.returns-then-mask-eq0
returns-then-mask-eq0 c = search (satellites-none, rules)

pub overflow_mul-result : goal.overflow_mul-result
overflow_mul-result c = search (each-mul, rules)

pub overflow_add-result : goal.overflow_add-result
overflow_add-result c = search (each-add, rules)

pub returns : goal.returns
returns c = search (satellites-there, rules)
