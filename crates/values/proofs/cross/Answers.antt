-- `cross`: the third correction is in metres, or anything else.
use Rattle.values.proofs.Answers.{cross-is, cross-field}
use borrow.Author.Rules.{rules}
use Rattle.values.proofs.cross.Goals as goal

pub returns-in-Metres : goal.returns-in-Metres
returns-in-Metres c = search (cross-is, rules)

pub returns-in_default : goal.returns-in_default
returns-in_default c = search (cross-field, rules)
