-- A text is put in its place, where it ends in the buffer.
use Rattle.text.proofs.Putting.{said-end, said-out, end-in}
use borrow.Author.Rules.{rules}
use Rattle.text.proofs.say.Goals as goal

pub returns : goal.returns
returns c = search (said-end, said-out, end-in, rules)
