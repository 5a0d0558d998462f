-- What is told changes neither tray nor desk.
use Rattle.runlog.proofs.Telling.{finish-neared}
use borrow.Author.Rules.{rules}
use Rattle.runlog.proofs.hearing.end_one.Goals as goal

pub returns : goal.returns
returns c = search (finish-neared, rules)
