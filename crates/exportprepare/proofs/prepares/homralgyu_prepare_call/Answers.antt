-- A slice of numbers is too short, or what was told is what the call below answers.
use Rattle.exportprepare.specs.Prepares.{call_number, call_leaves, call_result}
use Rattle.exportprepare.proofs.Prepared.{short-number, short-leaves, states-there, all_there, told-number, told-leaves}
use borrow.Author.Rules.{rules}
use Rattle.exportprepare.proofs.prepares.homralgyu_prepare_call.Goals as goal

pub returns-then-lacks_room-clause-value : goal.returns-then-lacks_room-clause-value
unfolding call_number call_leaves
returns-then-lacks_room-clause-value c = search (short-number, rules)

pub returns-then-lacks_room-clause-second_after : goal.returns-then-lacks_room-clause-second_after
unfolding call_number call_leaves
returns-then-lacks_room-clause-second_after c = short-leaves _ _ _ _ _ _ _ _ _ _ _ c.lacks_room.ensures c.if-lacks_room.true

pub call-answer-requires : goal.call-answer-requires
call-answer-requires c = search (states-there, rules)

pub tell-requires : goal.tell-requires
tell-requires c = all_there _ _ _ _ _ c.lacks_room.ensures c.if-lacks_room.false

pub returns-clause-value : goal.returns-clause-value
unfolding call_number call_leaves call_result
returns-clause-value c = search (told-number, rules)

pub returns-clause-second_after : goal.returns-clause-second_after
unfolding call_number call_leaves call_result
returns-clause-second_after c = search (told-leaves, rules)
