-- Desk and book are the ones that the numbers say.
use Rattle.exportdesk.proofs.Telling.{take-book-of, take-book-live}
use borrow.Author.Rules.{rules}
use Rattle.exportdesk.proofs.desks.take_book.Goals as goal

pub returns-clause-value : goal.returns-clause-value
returns-clause-value c = search (take-book-of, rules)

pub returns-clause-live_after : goal.returns-clause-live_after
returns-clause-live_after c = search (take-book-live, rules)
