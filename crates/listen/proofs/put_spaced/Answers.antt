-- The two parts are put one behind the other.
use Rattle.listen.proofs.Lines.{spaced-is}
use borrow.Author.Rules.{rules}
use Rattle.listen.proofs.put_spaced.Goals as goal

pub returns : goal.returns
returns c = search (spaced-is, rules)
