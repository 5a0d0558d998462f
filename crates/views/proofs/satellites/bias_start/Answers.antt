-- `bias_start`: by SF014.
use Rattle.views.proofs.Ocbs.{bias-clock, bias-straight}
use borrow.Author.Rules.{rules}
use Rattle.views.proofs.satellites.bias_start.Goals as goal

pub returns-then-clock-eq1 : goal.returns-then-clock-eq1
returns-then-clock-eq1 c = search (bias-clock, rules)

pub returns : goal.returns
returns c = search (bias-straight, rules)
