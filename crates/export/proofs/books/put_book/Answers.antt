-- The three numbers are the book's.
use Rattle.export.specs.Books.{book_of}
use Rattle.export.proofs.Laws.{cons-as}
use Rattle.export.specs.Stored.{stored-as}
use borrow.Author.Rules.{rules}
use Rattle.export.proofs.books.put_book.Goals as goal

pub returns : goal.returns
unfolding book_of
returns c = search (stored-as, cons-as, rules)
