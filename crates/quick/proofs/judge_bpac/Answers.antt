-- Subtype 0 is the only one.
use Rattle.quick.proofs.Judging.{bpac-there, bpac-other}
use borrow.Author.Rules.{rules}
use Rattle.quick.proofs.judge_bpac.Goals as goal

pub returns-then-subtype-eq0 : goal.returns-then-subtype-eq0
returns-then-subtype-eq0 c = search (bpac-there, rules)

pub returns : goal.returns
returns c = search (bpac-other, rules)
