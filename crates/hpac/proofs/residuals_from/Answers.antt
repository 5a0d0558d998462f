-- With n not 0 the state counts one less.
use Rattle.hpac.specs.Machine.{residuals-none, residuals-more}
use borrow.Author.Rules.{rules}
use Rattle.hpac.proofs.residuals_from.Goals as goal

pub returns-then-n-eq0 : goal.returns-then-n-eq0
returns-then-n-eq0 c = search (residuals-none, rules)

pub returns : goal.returns
returns c = search (residuals-more, rules)
