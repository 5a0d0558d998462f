-- `open`: the sheet is judged, then its payload's start.
use Rattle.views.proofs.Calls.{open-refused, open_unknown, open-known}
use borrow.Author.Rules.{rules}
use Rattle.views.proofs.places.open.Goals as goal

pub returns-in-Err : goal.returns-in-Err
returns-in-Err c = search (open-refused, rules)

pub returns-in-None : goal.returns-in-None
returns-in-None c = search (open_unknown, rules)

pub returns-in-Some : goal.returns-in-Some
returns-in-Some c = search (open-known, rules)
