-- By the size code, which gives the widths of table 6.17 or 6.18.
use Rattle.quick.proofs.Passing.{t-small, t-large}
use borrow.Author.Rules.{rules}
use Rattle.quick.proofs.for_hpac.t_polynomial_end.Goals as goal

pub returns-then-size-eq0 : goal.returns-then-size-eq0
returns-then-size-eq0 c = search (t-small, rules)

pub returns : goal.returns
returns c = search (t-large, rules)
