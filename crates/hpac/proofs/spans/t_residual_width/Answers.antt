-- Each size code has the width of its field.
use Rattle.hpac.specs.Spans.{t-width-0, t-width-1}
use borrow.Author.Rules.{rules}
use Rattle.hpac.proofs.spans.t_residual_width.Goals as goal

pub returns-then-size-eq0 : goal.returns-then-size-eq0
returns-then-size-eq0 c = search (t-width-0, rules)

pub returns : goal.returns
returns c = search (t-width-1, rules)
