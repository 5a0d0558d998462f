-- What is wanted is by the form.
use Rattle.runlog.proofs.Wanting.{logged-words, logged-raw, logged-not}
use borrow.Author.Rules.{rules}
use Rattle.runlog.proofs.command.logged.Goals as goal

pub returns-in-Words : goal.returns-in-Words
returns-in-Words c = search (logged-words, rules)

pub returns-in-Raw : goal.returns-in-Raw
returns-in-Raw c = search (logged-raw, rules)

pub returns-in-Unknown : goal.returns-in-Unknown
returns-in-Unknown c = search (logged-not, rules)
