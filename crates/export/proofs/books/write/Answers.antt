-- The book is the one that the numbers say.
use Rattle.kept.specs.Kept.{written, out_after}
use Rattle.export.specs.Books.{kept_of, kept_leaves}
use Rattle.export.proofs.Laws.{is-done}
use borrow.Author.Rules.{rules}
use Rattle.export.proofs.books.write.Goals as goal

pub returns : goal.returns
unfolding kept_of kept_leaves
returns c = search (is-done written, is-done out_after, rules)
