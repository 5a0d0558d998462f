-- By the size code, which gives the widths of table 6.21 or 6.22.
use Rattle.sheet.proofs.Storing.{i-small, i-large}
use borrow.Author.Rules.{rules}
use Rattle.sheet.proofs.store.i_polynomial.Goals as goal

pub returns-then-size-eq0 : goal.returns-then-size-eq0
returns-then-size-eq0 c = search (i-small, i-large, rules)

pub returns : goal.returns
returns c = search (i-small, i-large, rules)
