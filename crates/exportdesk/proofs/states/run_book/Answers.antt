-- A closed run has no book.
use Rattle.exportdesk.specs.States.{run_book}
use Rattle.export.proofs.Laws.{arm}
use borrow.Author.Rules.{rules}
use Rattle.exportdesk.proofs.states.run_book.Goals as goal

pub returns-in-None : goal.returns-in-None
returns-in-None c = search (arm run_book, rules)

pub returns-in-Some : goal.returns-in-Some
returns-in-Some c = search (arm run_book, rules)
