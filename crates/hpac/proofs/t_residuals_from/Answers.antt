-- With n not 0 the state counts one less.
use Rattle.hpac.specs.Machine.{t-residuals-none, t-residuals-more}
use borrow.Author.Rules.{rules}
use Rattle.hpac.proofs.t_residuals_from.Goals as goal

pub returns-then-n-eq0 : goal.returns-then-n-eq0
returns-then-n-eq0 c = search (t-residuals-none, rules)

pub returns : goal.returns
returns c = search (t-residuals-more, rules)
