-- `orbit_of`: the first correction is in metres, or anything else.
use Rattle.values.proofs.Answers.{orbit-is, orbit-field}
use borrow.Author.Rules.{rules}
use Rattle.values.proofs.orbit_of.Goals as goal

pub returns-in-Metres : goal.returns-in-Metres
returns-in-Metres c = search (orbit-is, rules)

pub returns-in_default : goal.returns-in_default
returns-in_default c = search (orbit-field, rules)
