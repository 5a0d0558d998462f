-- A case for each answer.
use Rattle.export.specs.Frames.{told_checked}
use Rattle.export.proofs.Laws.{number_in, numbers-in, laid_none}
use Rattle.export.specs.Stored.{header-there}
use borrow.Author.Rules.{rules}
use Rattle.export.proofs.frames.tell_checked.Goals as goal

pub returns-in-Accepted : goal.returns-in-Accepted
unfolding told_checked
returns-in-Accepted c = search (number_in told_checked, numbers-in told_checked, header-there, rules)

pub returns-in-Short : goal.returns-in-Short
unfolding told_checked
returns-in-Short c = search (number_in told_checked, numbers-in told_checked, laid_none, rules)

pub returns-in-Refused : goal.returns-in-Refused
unfolding told_checked
returns-in-Refused c = search (number_in told_checked, numbers-in told_checked, laid_none, rules)
