-- By what the desk said of the frame.
use borrow.Author.Rules.{rules}
use Rattle.prepare.proofs.Returns.{answered-accepted, answered-refused}
use Rattle.prepare.proofs.answered.Goals as goal

pub returns-in-Ok : goal.returns-in-Ok
returns-in-Ok c = search (answered-accepted, rules)

pub returns-in-Err : goal.returns-in-Err
returns-in-Err c = search (answered-refused, rules)
