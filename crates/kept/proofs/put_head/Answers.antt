-- `put_head`: the count is laid behind the numbers before it, and takes a byte (Putting.antt).
use Rattle.kept.proofs.Putting.{room-count, head-ends, head-five, head-laid}
use borrow.Author.Rules.{rules}
use Rattle.kept.proofs.put_head.Goals as goal

pub put_number-requires : goal.put_number-requires
put_number-requires c = search (room-count, rules)

pub returns-clause-value : goal.returns-clause-value
returns-clause-value c = (search (head-ends, rules), search (head-five, rules))

pub returns-clause-out_after : goal.returns-clause-out_after
returns-clause-out_after c = search (head-laid, rules)
