-- What the quick test says to read is read by the layout; else the machine's judgement is the layout's.
use Rattle.sheet.proofs.Reading.{good_length, judge-quick, judge-machine}
use borrow.Author.Rules.{rules}
use Rattle.sheet.proofs.judge_known.Goals as goal

pub judge_from-requires : goal.judge_from-requires
judge_from-requires c = search (good_length, rules)

pub returns-in-None : goal.returns-in-None
returns-in-None c = search (judge-quick, judge-machine, rules)

pub returns-in-Some : goal.returns-in-Some
returns-in-Some c = search (judge-quick, judge-machine, rules)
