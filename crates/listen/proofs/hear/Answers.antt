use Rattle.listen.proofs.Turns.{first-call, ready-next, fits_next, fewer-left, all_told, next-call}
use borrow.Author.Rules.{rules}
use Rattle.listen.proofs.hear.Goals as goal

pub loop-said-init : goal.loop-said-init
loop-said-init c = search (first-call, rules)

pub overflow_add-used : goal.overflow_add-used
overflow_add-used c = search (fits_next, rules)

pub returns-then-not-is_event-clause-ready : goal.returns-then-not-is_event-clause-ready
returns-then-not-is_event-clause-ready c = search (ready-next, rules)

pub returns-then-not-is_event-clause-told : goal.returns-then-not-is_event-clause-told
returns-then-not-is_event-clause-told c = search (all_told, rules)

pub loop-said-smaller : goal.loop-said-smaller
loop-said-smaller c = search (fewer-left, rules)

pub loop-said-preserved : goal.loop-said-preserved
loop-said-preserved c = search (next-call, rules)
