-- A case for each answer.
use Rattle.export.specs.Books.{told_kept}
use Rattle.export.proofs.Laws.{number_in, numbers-in, laid_none, cons-as}
use Rattle.export.specs.Stored.{laid-there}
use borrow.Author.Rules.{rules}
use Rattle.export.proofs.books.tell_kept.Goals as goal

pub returns-in-Ok : goal.returns-in-Ok
unfolding told_kept
returns-in-Ok c = search (number_in told_kept, numbers-in told_kept, laid-there, cons-as, rules)

pub returns-in-Err : goal.returns-in-Err
unfolding told_kept
returns-in-Err c = search (number_in told_kept, numbers-in told_kept, laid_none, rules)
