-- `is_authenticated`: the two tests are those of the definition.
use Rattle.frame.proofs.Reading.{not-sealed, is-sealed}
use borrow.Author.Rules.{rules}
use Rattle.frame.proofs.is_authenticated.Goals as goal

pub returns-then-sealed-ne1 : goal.returns-then-sealed-ne1
returns-then-sealed-ne1 c = search (not-sealed, rules)

pub returns : goal.returns
returns c = search (is-sealed, rules)
