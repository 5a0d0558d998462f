-- `payload`: a case for each answer of the check.
use Rattle.frame.proofs.Checking.{of-accepted, of-short, of-refused, place-accepted, place_short, place-refused}
use borrow.Author.Rules.{rules}
use Rattle.frame.proofs.payload.Goals as goal

pub returns-in-Accepted : goal.returns-in-Accepted
returns-in-Accepted c = search (of-accepted, place-accepted, rules)

pub returns-in-Short : goal.returns-in-Short
returns-in-Short c = search (of-short, place_short, rules)

pub returns-in-Refused : goal.returns-in-Refused
returns-in-Refused c = search (of-refused, place-refused, rules)
