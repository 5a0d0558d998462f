-- `bias_view`: by SF014.
use Rattle.views.proofs.Ocbs.{bias-is, bias-none}
use borrow.Author.Rules.{rules}
use Rattle.views.proofs.satellites.bias_view.Goals as goal

pub returns-then-bias-eq1 : goal.returns-then-bias-eq1
returns-then-bias-eq1 c = search (bias-is, rules)

pub returns : goal.returns
returns c = search (bias-none, rules)
