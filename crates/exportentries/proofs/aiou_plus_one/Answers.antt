-- The AIOU that was read is far below the highest number.
use Rattle.exportentries.proofs.Laws.{aiou-fits, aiou-is}
use borrow.Author.Rules.{rules}
use Rattle.exportentries.proofs.aiou_plus_one.Goals as goal

pub overflow_add-result : goal.overflow_add-result
overflow_add-result c = record { fits = search (aiou-fits, rules) }

pub returns-in-Some : goal.returns-in-Some
returns-in-Some c = search (aiou-is, rules)
