-- The tests are those of `gad_by`, in its order.
use borrow.Author.Rules.{rules}
use Rattle.quick.specs.Gad.{gad-short, gad-fits, gad-unfit}
use Rattle.quick.proofs.for_gad.judge.Goals as goal

pub returns-then-payload-end : goal.returns-then-payload-end
returns-then-payload-end c = search (gad-short, rules)

pub returns-then-blocks_fit : goal.returns-then-blocks_fit
returns-then-blocks_fit c = search (gad-fits, rules)

pub returns : goal.returns
returns c = search (gad-unfit, rules)
