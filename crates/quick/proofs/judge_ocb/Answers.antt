-- Each arm of the match gives what the definition has for its case.
use Rattle.quick.proofs.Judging.{ocb-arm}
use borrow.Author.Rules.{rules}
use Rattle.quick.proofs.judge_ocb.Goals as goal

pub returns-in-Some : goal.returns-in-Some
returns-in-Some c = search (ocb-arm, rules)

pub returns-in-None : goal.returns-in-None
returns-in-None c = search (ocb-arm, rules)
