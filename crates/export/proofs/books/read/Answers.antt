-- The call below.
use Rattle.export.specs.Books.{read_of, read_leaves}
use borrow.Author.Rules.{rules}
use Rattle.export.proofs.books.read.Goals as goal

pub returns : goal.returns
unfolding read_of read_leaves
returns c = search rules
