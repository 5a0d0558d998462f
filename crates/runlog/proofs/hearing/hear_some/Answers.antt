-- What came is the first part of the input, as long as the count says.
use Rattle.runlog.proofs.Reading.{came-read}
use borrow.Author.Rules.{rules}
use Rattle.runlog.proofs.hearing.hear_some.Goals as goal

pub returns-clause-came : goal.returns-clause-came
returns-clause-came c = search (came-read, rules)
