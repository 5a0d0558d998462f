-- `look`: six bytes an area are there, or nothing is found.
use Rattle.book.proofs.Blocks.{look-few, look-all}
use borrow.Author.Rules.{rules}
use Rattle.book.proofs.look.Goals as goal

pub returns-then-bytes-count : goal.returns-then-bytes-count
returns-then-bytes-count c = search (look-few, rules)

pub returns : goal.returns
returns c = search (look-all, rules)
