-- Each model has as many coefficients as its table says.
use Rattle.hpac.specs.Spans.{i-small, i-large}
use borrow.Author.Rules.{rules}
use Rattle.hpac.proofs.spans.i_polynomial_bits.Goals as goal

pub returns-then-size-eq0 : goal.returns-then-size-eq0
returns-then-size-eq0 c = search (i-small, rules)

pub returns : goal.returns
returns c = search (i-large, rules)
