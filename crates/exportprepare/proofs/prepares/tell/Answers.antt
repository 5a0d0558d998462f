-- A case for each thing that is said.
use Rattle.exportprepare.specs.Prepares.{told_said, state_said, header_said}
use Rattle.export.proofs.Laws.{laid_none}
use Rattle.exportprepare.proofs.Prepared.{puts, event-as}
use Rattle.export.specs.Stored.{header-there}
use borrow.Author.Rules.{rules}
use Rattle.exportprepare.proofs.prepares.tell.Goals as goal

pub returns-in-Hungry : goal.returns-in-Hungry
unfolding told_said state_said header_said
returns-in-Hungry c = search (puts, laid_none, rules)

pub returns-in-Accepted : goal.returns-in-Accepted
unfolding told_said state_said header_said
returns-in-Accepted c = search (puts, header-there, rules)

pub returns-in-FrameRefused : goal.returns-in-FrameRefused
unfolding told_said state_said header_said
returns-in-FrameRefused c = search (puts, event-as, header-there, rules)

pub returns-in-Noise : goal.returns-in-Noise
unfolding told_said state_said header_said
returns-in-Noise c = search (puts, event-as, laid_none, rules)

pub returns-in-Done : goal.returns-in-Done
unfolding told_said state_said header_said
returns-in-Done c = search (puts, laid_none, rules)

pub returns-in-Refused : goal.returns-in-Refused
unfolding told_said state_said header_said
returns-in-Refused c = search (puts, laid_none, rules)
