use Rattle.runlog.proofs.Ticking.{first-tick, tick-below, tick-above, tick-over, next-tick, last-tick}
use borrow.Author.Rules.{rules}
use Rattle.runlog.proofs.clock.second_in.Goals as goal

pub loop-i-init : goal.loop-i-init
loop-i-init c = search (first-tick, rules)

pub returns-then-digit-lt48 : goal.returns-then-digit-lt48
returns-then-digit-lt48 c = search (tick-below, rules)

pub returns-then-digit-gt57 : goal.returns-then-digit-gt57
returns-then-digit-gt57 c = search (tick-above, rules)

pub returns-then-n-ge100000000000000000 : goal.returns-then-n-ge100000000000000000
returns-then-n-ge100000000000000000 c = search (tick-over, rules)

pub loop-i-preserved : goal.loop-i-preserved
loop-i-preserved c = search (next-tick, rules)

pub returns : goal.returns
returns c = search (last-tick, rules)
