-- `residual_of`: the value is a residual, or anything else.
use Rattle.values.proofs.Answers.{residual-is, residual-field}
use borrow.Author.Rules.{rules}
use Rattle.values.proofs.residual_of.Goals as goal

pub returns-in-OfResidual : goal.returns-in-OfResidual
returns-in-OfResidual c = search (residual-is, rules)

pub returns-in_default : goal.returns-in_default
returns-in_default c = search (residual-field, rules)
