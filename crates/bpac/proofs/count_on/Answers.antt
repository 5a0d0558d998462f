-- Each side of the test gives what the definition picks.
use Rattle.bpac.specs.Machine.{counts, counts-not}
use borrow.Author.Rules.{rules}
use Rattle.bpac.proofs.count_on.Goals as goal

pub returns-then-seen-lt4294967296 : goal.returns-then-seen-lt4294967296
returns-then-seen-lt4294967296 c = search (counts, rules)

pub returns : goal.returns
returns c = search (counts-not, rules)
