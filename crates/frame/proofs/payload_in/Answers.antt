-- `payload_in`: the part is there, or it is empty and at the start.
use Rattle.frame.proofs.Checking.{part-1, part-2, part-3, place-1, place-2, place-3}
use borrow.Author.Rules.{rules}
use Rattle.frame.proofs.payload_in.Goals as goal

pub returns-then-bytes-at : goal.returns-then-bytes-at
returns-then-bytes-at c = search (part-1, place-1, rules)

pub returns-then-bytes-at-2 : goal.returns-then-bytes-at-2
returns-then-bytes-at-2 c = search (part-2, place-2, rules)

pub returns : goal.returns
returns c = search (part-3, place-3, rules)
