-- Each model has as many coefficients as its table says.
use Rattle.hpac.specs.Spans.{t-small, t-large}
use borrow.Author.Rules.{rules}
use Rattle.hpac.proofs.spans.t_polynomial_bits.Goals as goal

pub returns-then-size-eq0 : goal.returns-then-size-eq0
returns-then-size-eq0 c = search (t-small, rules)

pub returns : goal.returns
returns c = search (t-large, rules)
