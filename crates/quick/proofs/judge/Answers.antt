-- The kinds in their order.
use Rattle.quick.proofs.Judging.{quick-ocb, quick-hpac, quick-gad, quick-bpac, quick-other}
use borrow.Author.Rules.{rules}
use Rattle.quick.proofs.judge.Goals as goal

pub returns-then-kind-eq0 : goal.returns-then-kind-eq0
returns-then-kind-eq0 c = search (quick-ocb, rules)

pub returns-then-kind-eq1 : goal.returns-then-kind-eq1
returns-then-kind-eq1 c = search (quick-hpac, rules)

pub returns-then-kind-eq2 : goal.returns-then-kind-eq2
returns-then-kind-eq2 c = search (quick-gad, rules)

pub returns-then-kind-eq3 : goal.returns-then-kind-eq3
returns-then-kind-eq3 c = search (quick-bpac, rules)

pub returns : goal.returns
returns c = search (quick-other, rules)
