use Rattle.runlog.proofs.Turns.{first-turn, first-heeding, from_start, portion-told, call-fewer-left, after_call}
use borrow.Author.Rules.{rules}
use Rattle.runlog.proofs.hearing.hear.Goals as goal

pub loop-next-init : goal.loop-next-init
loop-next-init c = search (first-turn, first-heeding, rules)

pub returns-then-not-next-clause-told : goal.returns-then-not-next-clause-told
returns-then-not-next-clause-told c = search (from_start, portion-told, rules)

pub loop-next-smaller : goal.loop-next-smaller
loop-next-smaller c = search (call-fewer-left, rules)

pub loop-next-preserved : goal.loop-next-preserved
loop-next-preserved c = search (after_call, rules)
