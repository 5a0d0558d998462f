-- `judge_found`: a case for each thing that may be known of the ID.
use Rattle.book.proofs.Blocks.{found-same, found-other, found-new, found-full}
use borrow.Author.Rules.{rules}
use Rattle.book.proofs.judge_found.Goals as goal

pub returns-in-Some : goal.returns-in-Some
returns-in-Some c = search (found-same, rules)

pub returns-in-Some-2 : goal.returns-in-Some-2
returns-in-Some-2 c = search (found-other, rules)

pub returns-in-None : goal.returns-in-None
returns-in-None c = search (found-new, rules)

pub returns-in-None-2 : goal.returns-in-None-2
returns-in-None-2 c = search (found-full, rules)
