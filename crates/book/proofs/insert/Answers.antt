-- `insert`: the areas behind its place make room for it (Taking.antt).
use Rattle.book.proofs.Taking.{insert-put}
use borrow.Author.Rules.{rules}
use Rattle.book.proofs.insert.Goals as goal

pub returns : goal.returns
returns c = search (insert-put, rules)
