-- Each arm of the match gives what the definition has for its case.
use Rattle.quick.proofs.Judging.{hpac-arm}
use borrow.Author.Rules.{rules}
use Rattle.quick.proofs.judge_hpac.Goals as goal

pub returns-in-Some : goal.returns-in-Some
returns-in-Some c = search (hpac-arm, rules)

pub returns-in-None : goal.returns-in-None
returns-in-None c = search (hpac-arm, rules)
