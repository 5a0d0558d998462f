-- A book without areas, and one with some.
use Rattle.export.proofs.States.{book-empty, book-areas}
use borrow.Author.Rules.{rules}
use Rattle.export.proofs.books.book_in.Goals as goal

pub returns-then-areas-eq0 : goal.returns-then-areas-eq0
returns-then-areas-eq0 c = search (book-empty, rules)

pub returns : goal.returns
returns c = search (book-areas, rules)
