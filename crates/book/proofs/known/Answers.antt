-- `known`: the book is asked first; an ID above those of the blocks before is new to them.
use Rattle.book.proofs.Blocks.{known-area, known-before, known-new}
use borrow.Author.Rules.{rules}
use Rattle.book.proofs.known.Goals as goal

pub returns-then-is_some : goal.returns-then-is_some
returns-then-is_some c = search (known-area, rules)

pub returns-then-least-id : goal.returns-then-least-id
returns-then-least-id c = search (known-new, rules)

pub returns : goal.returns
returns c = search (known-before, rules)
