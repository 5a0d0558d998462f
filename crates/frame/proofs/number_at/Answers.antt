-- `number_at`: the bits are there, so `get` gives the field.
use mathlib.Core.Path.{◌∙◌}
use Rattle.bits.specs.Laws.{got-there}
use borrow.Author.Rules.{rules}
use Rattle.frame.proofs.number_at.Goals as goal

pub returns : goal.returns
returns c = c.get.ensures ∙ got-there _ _ _ (search rules) (search rules)
