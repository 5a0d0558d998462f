use Rattle.quick.specs.Behind.{repeats-end, repeats-on, repeats-start, repeats-stop}
use borrow.Author.Rules.{rules}
use Rattle.quick.proofs.for_ocb.satellites_behind.Goals as goal

pub loop-left-init : goal.loop-left-init
loop-left-init c = search (repeats-start, rules)

pub returns-then-satellite-eq0 : goal.returns-then-satellite-eq0
returns-then-satellite-eq0 c = search (repeats-stop, rules)

pub loop-left-preserved : goal.loop-left-preserved
loop-left-preserved c = search (repeats-on, rules)

pub returns : goal.returns
returns c = search (repeats-end, rules)
