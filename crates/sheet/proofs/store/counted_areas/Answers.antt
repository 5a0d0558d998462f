-- There are 32 areas at most.
use Rattle.sheet.proofs.Storing.{count_add, count-few, counted-stored}
use borrow.Author.Rules.{rules}
use Rattle.sheet.proofs.store.counted_areas.Goals as goal

pub overflow_add-n : goal.overflow_add-n
overflow_add-n c = search (count_add, rules)

pub areas-requires : goal.areas-requires
areas-requires c = search (count-few, rules)

pub returns : goal.returns
returns c = search (counted-stored, rules)
