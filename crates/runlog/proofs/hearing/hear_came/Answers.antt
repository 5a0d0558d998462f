-- Nothing came, or a portion, which is told; it goes on where something came and the log went out.
use Rattle.runlog.proofs.Reading.{came-none, came-some}
use borrow.Author.Rules.{rules}
use Rattle.runlog.proofs.hearing.hear_came.Goals as goal

pub returns-then-portion-eq0-clause-came : goal.returns-then-portion-eq0-clause-came
returns-then-portion-eq0-clause-came c = search (came-none, rules)

pub returns-clause-came : goal.returns-clause-came
returns-clause-came c = search (came-some, rules)
