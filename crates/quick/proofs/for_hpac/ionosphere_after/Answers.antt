-- Nothing behind a troposphere that did not pass.
use Rattle.quick.proofs.Passing.{after_none, after-passed}
use borrow.Author.Rules.{rules}
use Rattle.quick.proofs.for_hpac.ionosphere_after.Goals as goal

pub returns-then-troposphere-eq0 : goal.returns-then-troposphere-eq0
returns-then-troposphere-eq0 c = search (after_none, rules)

pub returns : goal.returns
returns c = search (after-passed, rules)
