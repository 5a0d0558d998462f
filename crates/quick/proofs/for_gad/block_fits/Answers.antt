-- The tests are those of `block_fits`, in its order.
use borrow.Author.Rules.{rules}
use Rattle.quick.specs.Gad.{block-high, block-rest}
use Rattle.quick.proofs.for_gad.block_fits.Goals as goal

pub returns-then-block-gt1800 : goal.returns-then-block-gt1800
returns-then-block-gt1800 c = search (block-high, rules)

pub returns : goal.returns
returns c = search (block-rest, rules)
