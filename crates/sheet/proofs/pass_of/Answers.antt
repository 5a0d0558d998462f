-- The start is that of the type and subtype.
use Rattle.sheet.proofs.Reading.{pass-known, pass-unknown}
use borrow.Author.Rules.{rules}
use Rattle.sheet.proofs.pass_of.Goals as goal

pub returns-in-None : goal.returns-in-None
returns-in-None c = search (pass-known, pass-unknown, rules)

pub returns-in-Some : goal.returns-in-Some
returns-in-Some c = search (pass-known, pass-unknown, rules)
