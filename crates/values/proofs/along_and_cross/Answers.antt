-- `along_and_cross`: the second correction is in metres, or anything else.
use Rattle.values.proofs.Answers.{along-is, along-field}
use borrow.Author.Rules.{rules}
use Rattle.values.proofs.along_and_cross.Goals as goal

pub returns-in-Metres : goal.returns-in-Metres
returns-in-Metres c = search (along-is, rules)

pub returns-in_default : goal.returns-in_default
returns-in_default c = search (along-field, rules)
