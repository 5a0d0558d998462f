-- `put_issues`: each number is laid behind those before it; SIOU + 1 takes two bytes at most, the others one (Putting.antt).
use Rattle.kept.proofs.Putting.{room-form, room-aiou, room-siou, issues-end, issues-four, issues-laid}
use borrow.Author.Rules.{rules}
use Rattle.kept.proofs.put_issues.Goals as goal

pub put_number-aiou-requires : goal.put_number-aiou-requires
put_number-aiou-requires c = search (room-form, rules)

pub put_number-siou-requires : goal.put_number-siou-requires
put_number-siou-requires c = search (room-aiou, rules)

pub put_number-requires : goal.put_number-requires
put_number-requires c = search (room-siou, rules)

pub returns-clause-value : goal.returns-clause-value
returns-clause-value c = (search (issues-end, rules), search (issues-four, rules))

pub returns-clause-out_after : goal.returns-clause-out_after
returns-clause-out_after c = search (issues-laid, rules)
