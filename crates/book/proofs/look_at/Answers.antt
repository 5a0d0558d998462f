-- `look_at`: what was passed is smaller; the next area has the ID, or all from there on are greater.
use Rattle.book.proofs.Searching.{at-end, at_other, at-found}
use borrow.Author.Rules.{rules}
use Rattle.book.proofs.look_at.Goals as goal

pub returns-then-count-at : goal.returns-then-count-at
returns-then-count-at c = search (at-end, rules)

pub returns-then-bytes-at : goal.returns-then-bytes-at
returns-then-bytes-at c = search (at_other, rules)

pub returns : goal.returns
returns c = search (at-found, rules)
