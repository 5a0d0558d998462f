-- `count_in`: a count, or none.
use Rattle.views.proofs.Entries.{count-is, count-refused}
use borrow.Author.Rules.{rules}
use Rattle.views.proofs.units.count_in.Goals as goal

pub returns-in-Ok : goal.returns-in-Ok
returns-in-Ok c = search (count-is, rules)

pub returns-in-Err : goal.returns-in-Err
returns-in-Err c = search (count-refused, rules)
