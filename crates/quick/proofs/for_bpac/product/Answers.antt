-- Two numbers from 1 to 16 have a product from 1 to 256.
use Rattle.quick.specs.Bpac.{product-fits, product_small, product-some}
use borrow.Author.Rules.{rules}
use Rattle.quick.proofs.for_bpac.product.Goals as goal

pub overflow_mul-result : goal.overflow_mul-result
overflow_mul-result c = search (product-fits, rules)

pub returns : goal.returns
returns c = search (product-some, product_small, rules)
