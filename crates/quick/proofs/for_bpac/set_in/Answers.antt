use Rattle.quick.specs.Bpac.{counting-end, counting-on, counting-start}
use borrow.Author.Rules.{rules}
use Rattle.quick.proofs.for_bpac.set_in.Goals as goal

pub loop-left-init : goal.loop-left-init
loop-left-init c = search (counting-start, rules)

pub loop-left-preserved : goal.loop-left-preserved
loop-left-preserved c = search (counting-on, rules)

pub returns : goal.returns
returns c = search (counting-end, rules)
