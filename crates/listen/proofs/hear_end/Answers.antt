use Rattle.listen.proofs.Turns.{first-finish, fewer-last, all-ended, next-finish}
use borrow.Author.Rules.{rules}
use Rattle.listen.proofs.hear_end.Goals as goal

pub loop-last-init : goal.loop-last-init
loop-last-init c = search (first-finish, rules)

pub returns-then-not-is_event : goal.returns-then-not-is_event
returns-then-not-is_event c = search (all-ended, rules)

pub loop-last-smaller : goal.loop-last-smaller
loop-last-smaller c = search (fewer-last, rules)

pub loop-last-preserved : goal.loop-last-preserved
loop-last-preserved c = search (next-finish, rules)
