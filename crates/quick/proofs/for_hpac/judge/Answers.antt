-- There are 32 areas at most.
use Rattle.quick.proofs.Passing.{count_add, count-few, judge-areas}
use borrow.Author.Rules.{rules}
use Rattle.quick.proofs.for_hpac.judge.Goals as goal

pub overflow_add-n : goal.overflow_add-n
overflow_add-n c = search (count_add, rules)

pub areas_behind-requires : goal.areas_behind-requires
areas_behind-requires c = search (count-few, rules)

pub returns : goal.returns
returns c = search (judge-areas, rules)
