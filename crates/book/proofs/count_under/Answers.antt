-- `count_under`: a case each way.
use Rattle.book.proofs.Taking.{under_same, under-other, under-update}
use borrow.Author.Rules.{rules}
use Rattle.book.proofs.count_under.Goals as goal

pub returns-then-book-aiou : goal.returns-then-book-aiou
returns-then-book-aiou c = search (under-other, rules)

pub returns-then-book-siou : goal.returns-then-book-siou
returns-then-book-siou c = search (under-update, rules)

pub returns : goal.returns
returns c = search (under_same, rules)
