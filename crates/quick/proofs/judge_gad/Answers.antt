-- Subtype 0 is the only one.
use Rattle.quick.proofs.Judging.{gad-there, gad-other}
use borrow.Author.Rules.{rules}
use Rattle.quick.proofs.judge_gad.Goals as goal

pub returns-then-subtype-eq0 : goal.returns-then-subtype-eq0
returns-then-subtype-eq0 c = search (gad-there, rules)

pub returns : goal.returns
returns c = search (gad-other, rules)
