use borrow.Author.Rules.{rules}
use Rattle.quick.specs.Gad.{turn-starts, turn-stops, turn_on, turn-ends}
use Rattle.quick.proofs.for_gad.blocks_fit.Goals as goal

pub loop-left-init : goal.loop-left-init
loop-left-init c = search (turn-starts, rules)

pub returns-then-not-block_fits : goal.returns-then-not-block_fits
returns-then-not-block_fits c = search (turn-stops, rules)

pub loop-left-preserved : goal.loop-left-preserved
loop-left-preserved c = search (turn_on, rules)

pub returns : goal.returns
returns c = search (turn-ends, rules)
