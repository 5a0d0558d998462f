-- The field of the number is the one that the definition picks.
use Rattle.hpac.specs.Machine.{residual-sized}
use borrow.Author.Rules.{rules}
use Rattle.hpac.proofs.sized.residual_field.Goals as goal

pub returns : goal.returns
returns c = search (residual-sized, rules)
