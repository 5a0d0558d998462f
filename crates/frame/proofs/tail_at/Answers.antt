-- `tail_at`: the last of eight bytes.
use Rattle.frame.proofs.Reading.{tail-is}
use borrow.Author.Rules.{rules}
use Rattle.frame.proofs.tail_at.Goals as goal

pub returns : goal.returns
returns c = search (tail-is, rules)
