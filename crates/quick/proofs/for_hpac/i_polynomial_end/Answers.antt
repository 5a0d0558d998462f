-- By the size code, which gives the widths of table 6.21 or 6.22.
use Rattle.quick.proofs.Passing.{i-small, i-large}
use borrow.Author.Rules.{rules}
use Rattle.quick.proofs.for_hpac.i_polynomial_end.Goals as goal

pub returns-then-size-eq0 : goal.returns-then-size-eq0
returns-then-size-eq0 c = search (i-small, rules)

pub returns : goal.returns
returns c = search (i-large, rules)
