-- By the size code, which gives the widths of table 6.17 or 6.18.
use Rattle.sheet.proofs.Storing.{t-small, t-large}
use borrow.Author.Rules.{rules}
use Rattle.sheet.proofs.store.t_polynomial.Goals as goal

pub returns-then-size-eq0 : goal.returns-then-size-eq0
returns-then-size-eq0 c = search (t-small, t-large, rules)

pub returns : goal.returns
returns c = search (t-small, t-large, rules)
