-- A slice of numbers is too short, or what was told is what the call below answers.
use Rattle.exportprepare.specs.Prepares.{finish_number, finish_leaves, finish_result}
use Rattle.exportprepare.proofs.Prepared.{short-number, short-leaves, states-there, all_there, told-number, told-leaves}
use borrow.Author.Rules.{rules}
use Rattle.exportprepare.proofs.prepares.homralgyu_prepare_finish.Goals as goal

pub returns-then-lacks_room-clause-value : goal.returns-then-lacks_room-clause-value
unfolding finish_number finish_leaves
returns-then-lacks_room-clause-value c = search (short-number, rules)

pub returns-then-lacks_room-clause-second_after : goal.returns-then-lacks_room-clause-second_after
unfolding finish_number finish_leaves
returns-then-lacks_room-clause-second_after c = short-leaves _ _ _ _ _ _ _ _ _ _ _ c.lacks_room.ensures c.if-lacks_room.true

pub finish-answer-requires : goal.finish-answer-requires
finish-answer-requires c = search (states-there, rules)

pub tell-requires : goal.tell-requires
tell-requires c = all_there _ _ _ _ _ c.lacks_room.ensures c.if-lacks_room.false

pub returns-clause-value : goal.returns-clause-value
unfolding finish_number finish_leaves finish_result
returns-clause-value c = search (told-number, rules)

pub returns-clause-second_after : goal.returns-clause-second_after
unfolding finish_number finish_leaves finish_result
returns-clause-second_after c = search (told-leaves, rules)
