-- By the size, which stands in the same bits.
use Rattle.sheet.proofs.StoringBpac.{residual-small, residual-large}
use borrow.Author.Rules.{rules}
use Rattle.sheet.proofs.store_bpac.residual.Goals as goal

pub returns-then-word-eq0 : goal.returns-then-word-eq0
returns-then-word-eq0 c = search (residual-small, rules)

pub returns : goal.returns
returns c = search (residual-large, rules)
