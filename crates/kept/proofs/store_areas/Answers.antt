use Rattle.kept.proofs.Walking.{store-start, store_length, store-end, store-never, store-turn}
use borrow.Author.Rules.{rules}
use Rattle.kept.proofs.store_areas.Goals as goal

pub loop-i-init : goal.loop-i-init
loop-i-init c = search (store-start, rules)

pub returns-in_default : goal.returns-in_default
returns-in_default c = search (store-never, rules)

pub loop-i-preserved : goal.loop-i-preserved
loop-i-preserved c = search (store-turn, rules)

pub shape_of-bytes : goal.shape_of-bytes
shape_of-bytes c = search (store_length, rules)

pub returns : goal.returns
returns c = search (store-end, rules)
