-- A case for each answer.
use Rattle.export.specs.Books.{told_taken}
use Rattle.export.proofs.Laws.{number_in, numbers-in, laid_none}
use Rattle.export.specs.Stored.{book-there}
use borrow.Author.Rules.{rules}
use Rattle.export.proofs.books.tell_taken.Goals as goal

pub returns-in-Ok : goal.returns-in-Ok
unfolding told_taken
returns-in-Ok c = search (number_in told_taken, numbers-in told_taken, book-there, rules)

pub returns-in-Err : goal.returns-in-Err
unfolding told_taken
returns-in-Err c = search (number_in told_taken, numbers-in told_taken, laid_none, rules)
