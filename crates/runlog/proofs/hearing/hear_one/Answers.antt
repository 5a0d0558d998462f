-- What is told changes neither tray nor desk.
use Rattle.runlog.proofs.Telling.{call-advanced}
use Rattle.runlog.proofs.Turns.{used-fits}
use borrow.Author.Rules.{rules}
use Rattle.runlog.proofs.hearing.hear_one.Goals as goal

pub told-requires : goal.told-requires
told-requires c = search (used-fits, rules)

pub returns : goal.returns
returns c = search (call-advanced, rules)
