use Rattle.quick.specs.Bpac.{ending-end, ending-on, ending-start}
use borrow.Author.Rules.{rules}
use Rattle.quick.proofs.for_bpac.vtecs_end.Goals as goal

pub loop-left-init : goal.loop-left-init
loop-left-init c = search (ending-start, rules)

pub loop-left-preserved : goal.loop-left-preserved
loop-left-preserved c = search (ending-on, rules)

pub returns : goal.returns
returns c = search (ending-end, rules)
