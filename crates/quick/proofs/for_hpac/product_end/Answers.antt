-- Nothing behind what did not pass; the product in model 2 only.
use Rattle.quick.proofs.Passing.{product-none, product-absent, product-there}
use borrow.Author.Rules.{rules}
use Rattle.quick.proofs.for_hpac.product_end.Goals as goal

pub returns-then-pos-eq0 : goal.returns-then-pos-eq0
returns-then-pos-eq0 c = search (product-none, rules)

pub returns-then-equation-lt2 : goal.returns-then-equation-lt2
returns-then-equation-lt2 c = search (product-absent, rules)

pub returns : goal.returns
returns c = search (product-there, rules)
