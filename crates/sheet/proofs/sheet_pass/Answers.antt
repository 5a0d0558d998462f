-- The start is that of the type and subtype.
use Rattle.sheet.proofs.Writing.{sheet-known, sheet-unknown}
use borrow.Author.Rules.{rules}
use Rattle.sheet.proofs.sheet_pass.Goals as goal

pub returns-in-None : goal.returns-in-None
returns-in-None c = search (sheet-known, sheet-unknown, rules)

pub returns-in-Some : goal.returns-in-Some
returns-in-Some c = search (sheet-known, sheet-unknown, rules)
