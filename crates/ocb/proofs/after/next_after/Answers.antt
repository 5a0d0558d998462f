-- Each side of the test gives what the definition picks.
use Rattle.ocb.specs.Rows.{next-over, next-on}
use borrow.Author.Rules.{rules}
use Rattle.ocb.proofs.after.next_after.Goals as goal

pub returns-then-head-eq0 : goal.returns-then-head-eq0
returns-then-head-eq0 c = search (next-over, next-on, rules)

pub returns : goal.returns
returns c = search (next-over, next-on, rules)
