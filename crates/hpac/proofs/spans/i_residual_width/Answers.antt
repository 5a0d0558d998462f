-- Each size code has the width of its field.
use Rattle.hpac.specs.Spans.{i-width-0, i-width-1, i-width-2, i-width-3}
use borrow.Author.Rules.{rules}
use Rattle.hpac.proofs.spans.i_residual_width.Goals as goal

pub returns-then-size-eq0 : goal.returns-then-size-eq0
returns-then-size-eq0 c = search (i-width-0, rules)

pub returns-then-size-eq1 : goal.returns-then-size-eq1
returns-then-size-eq1 c = search (i-width-1, rules)

pub returns-then-size-eq2 : goal.returns-then-size-eq2
returns-then-size-eq2 c = search (i-width-2, rules)

pub returns : goal.returns
returns c = search (i-width-3, rules)
