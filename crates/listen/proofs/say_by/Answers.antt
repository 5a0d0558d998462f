-- The line is what stands first in the buffer in which it was put.
use Rattle.listen.proofs.Lines.{line-waits, line-said}
use borrow.Author.Rules.{rules}
use Rattle.listen.proofs.say_by.Goals as goal

pub returns : goal.returns
returns c = search (line-waits, line-said, rules)
