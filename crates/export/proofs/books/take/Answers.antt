-- The book is the one that the numbers say.
use Rattle.book.specs.Take.{taken_of, bytes_after}
use Rattle.export.specs.Books.{take_of, take_leaves}
use Rattle.export.proofs.Laws.{is-done}
use borrow.Author.Rules.{rules}
use Rattle.export.proofs.books.take.Goals as goal

pub returns : goal.returns
unfolding take_of take_leaves
returns c = search (is-done taken_of, is-done bytes_after, rules)
