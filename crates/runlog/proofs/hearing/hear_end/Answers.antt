use Rattle.runlog.proofs.Turns.{first-turn, first-nearing, end-from-start, end-told, finish-fewer-left, after_finish}
use borrow.Author.Rules.{rules}
use Rattle.runlog.proofs.hearing.hear_end.Goals as goal

pub loop-last-init : goal.loop-last-init
loop-last-init c = search (first-turn, first-nearing, rules)

pub returns-then-not-last : goal.returns-then-not-last
returns-then-not-last c = search (end-from-start, end-told, rules)

pub loop-last-smaller : goal.loop-last-smaller
loop-last-smaller c = search (finish-fewer-left, rules)

pub loop-last-preserved : goal.loop-last-preserved
loop-last-preserved c = search (after_finish, rules)
