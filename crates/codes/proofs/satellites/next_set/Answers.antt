-- A mask with a bit set has its first one where the leading zeros end.
use Rattle.codes.specs.Stepping.{no-set, power_below}
use borrow.Author.Rules.{rules}
use Rattle.codes.proofs.satellites.next_set.Goals as goal

pub returns-then-left-eq0 : goal.returns-then-left-eq0
returns-then-left-eq0 c = search (no-set, rules)

pub overflow_sub-result-2 : goal.overflow_sub-result-2
overflow_sub-result-2 c = search (power_below, rules)
