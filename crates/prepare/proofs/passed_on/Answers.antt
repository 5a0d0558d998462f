-- Each case as it is.
use borrow.Author.Rules.{rules}
use Rattle.answer.specs.Matched.{arm}
use Rattle.prepare.specs.Moves.{passed_on}
use Rattle.prepare.proofs.passed_on.Goals as goal

pub returns-in-Frame : goal.returns-in-Frame
returns-in-Frame c = search (arm passed_on, rules)

pub returns-in-Noise : goal.returns-in-Noise
returns-in-Noise c = search (arm passed_on, rules)

pub returns-in-Hungry : goal.returns-in-Hungry
returns-in-Hungry c = search (arm passed_on, rules)

pub returns-in-Done : goal.returns-in-Done
returns-in-Done c = search (arm passed_on, rules)

pub returns-in-Refused : goal.returns-in-Refused
returns-in-Refused c = search (arm passed_on, rules)
