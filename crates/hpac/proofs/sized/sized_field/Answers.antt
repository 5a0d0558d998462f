-- The field of the number is the one that the definition picks.
use Rattle.hpac.specs.Machine.{sized}
use borrow.Author.Rules.{rules}
use Rattle.hpac.proofs.sized.sized_field.Goals as goal

pub returns : goal.returns
returns c = search (sized, rules)
