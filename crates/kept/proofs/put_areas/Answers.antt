use Rattle.kept.proofs.Putting.{lay-start, lay-length, lay-room, lay-turn, lay-count, lay-end}
use borrow.Author.Rules.{rules}
use Rattle.kept.proofs.put_areas.Goals as goal

pub loop-i-init : goal.loop-i-init
loop-i-init c = search (lay-start, rules)

pub put_number-end-requires : goal.put_number-end-requires
put_number-end-requires c = search (lay-room, rules)

pub loop-i-preserved : goal.loop-i-preserved
loop-i-preserved c = search (lay-turn, rules)

pub shape_of-out : goal.shape_of-out
shape_of-out c = search (lay-length, rules)

pub returns-clause-value : goal.returns-clause-value
returns-clause-value c = search (lay-count, rules)

pub returns-clause-out_after : goal.returns-clause-out_after
returns-clause-out_after c = search (lay-end, rules)
