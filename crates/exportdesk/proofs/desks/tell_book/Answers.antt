-- A case for each thing that is said.
use Rattle.exportdesk.specs.Desks.{told_book_said}
use Rattle.export.proofs.Laws.{laid_none}
use Rattle.exportdesk.proofs.Telling.{book-number, book-numbers}
use Rattle.exportdesk.specs.Stored.{desk-there}
use borrow.Author.Rules.{rules}
use Rattle.exportdesk.proofs.desks.tell_book.Goals as goal

pub returns-in-Ok : goal.returns-in-Ok
unfolding told_book_said
returns-in-Ok c = search (book-number, book-numbers, desk-there, rules)

pub returns-in-Err : goal.returns-in-Err
unfolding told_book_said
returns-in-Err c = search (book-number, book-numbers, laid_none, rules)
