-- There is an end, and the payload reaches to it.
use Rattle.quick.proofs.Passing.{reads_none, reads_short, reads_whole}
use borrow.Author.Rules.{rules}
use Rattle.quick.proofs.for_hpac.reads_by.Goals as goal

pub returns-then-behind-eq0 : goal.returns-then-behind-eq0
returns-then-behind-eq0 c = search (reads_none, rules)

pub returns-then-bytes-behind : goal.returns-then-bytes-behind
returns-then-bytes-behind c = search (reads_short, rules)

pub returns : goal.returns
returns c = search (reads_whole, rules)
