-- `seal_of`: each field is read where the definition has it.
use Rattle.frame.proofs.Checking.{is_plain, is-sealed}
use borrow.Author.Rules.{rules}
use Rattle.frame.proofs.seal_of.Goals as goal

pub returns-then-sealed-eq0 : goal.returns-then-sealed-eq0
returns-then-sealed-eq0 c = search (is_plain, rules)

pub returns : goal.returns
returns c = search (is-sealed, rules)
