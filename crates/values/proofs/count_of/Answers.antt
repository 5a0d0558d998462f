-- `count_of`: the value is a count, or anything else.
use Rattle.values.proofs.Answers.{count-is, count-field}
use borrow.Author.Rules.{rules}
use Rattle.values.proofs.count_of.Goals as goal

pub returns-in-Count : goal.returns-in-Count
returns-in-Count c = search (count-is, rules)

pub returns-in_default : goal.returns-in_default
returns-in_default c = search (count-field, rules)
