use Rattle.quick.specs.Behind.{withouts-end, withouts-on, withouts-start, withouts-stop}
use borrow.Author.Rules.{rules}
use Rattle.quick.proofs.for_ocb.phases_fit.Goals as goal

pub loop-left-init : goal.loop-left-init
loop-left-init c = search (withouts-start, rules)

pub returns-then-get-eq16383 : goal.returns-then-get-eq16383
returns-then-get-eq16383 c = search (withouts-stop, rules)

pub loop-left-preserved : goal.loop-left-preserved
loop-left-preserved c = search (withouts-on, rules)

pub returns : goal.returns
returns c = search (withouts-end, rules)
