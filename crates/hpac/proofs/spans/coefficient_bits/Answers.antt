-- Each model has as many coefficients as its table says.
use Rattle.hpac.specs.Spans.{model-0, model-1, model-2}
use borrow.Author.Rules.{rules}
use Rattle.hpac.proofs.spans.coefficient_bits.Goals as goal

pub returns-then-equation-eq0 : goal.returns-then-equation-eq0
returns-then-equation-eq0 c = search (model-0, rules)

pub returns-then-equation-eq1 : goal.returns-then-equation-eq1
returns-then-equation-eq1 c = search (model-1, rules)

pub returns : goal.returns
returns c = search (model-2, rules)
