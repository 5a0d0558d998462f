-- One test: the coefficient is all ones, or it passes.
use Rattle.quick.proofs.Passing.{one-top, one-passed}
use borrow.Author.Rules.{rules}
use Rattle.quick.proofs.for_hpac.one_end.Goals as goal

pub returns-then-get-top : goal.returns-then-get-top
returns-then-get-top c = search (one-top, rules)

pub returns : goal.returns
returns c = search (one-passed, rules)
