-- The tests are those of `reads_to`, in its order.
use Rattle.quick.specs.Behind.{ends_nowhere, ends-short, ends_there}
use borrow.Author.Rules.{rules}
use Rattle.quick.proofs.behind.reads_to.Goals as goal

pub returns-then-end-eq0 : goal.returns-then-end-eq0
returns-then-end-eq0 c = search (ends_nowhere, rules)

pub returns-then-payload-end : goal.returns-then-payload-end
returns-then-payload-end c = search (ends-short, rules)

pub returns : goal.returns
returns c = search (ends_there, rules)
