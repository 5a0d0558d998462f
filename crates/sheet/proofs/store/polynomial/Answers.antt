-- By the model: one, three or four coefficients, each stored behind the one before it.
use Rattle.sheet.proofs.Storing.{model-0, model-1, model-2}
use borrow.Author.Rules.{rules}
use Rattle.sheet.proofs.store.polynomial.Goals as goal

pub returns-then-equation-eq0 : goal.returns-then-equation-eq0
returns-then-equation-eq0 c = search (model-0, rules)

pub returns-then-equation-eq1 : goal.returns-then-equation-eq1
returns-then-equation-eq1 c = search (model-1, rules)

pub returns : goal.returns
returns c = search (model-2, rules)
