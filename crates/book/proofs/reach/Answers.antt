use Rattle.book.proofs.Searching.{reach-found, reach-turn, reach-end}
use borrow.Author.Rules.{rules}
use Rattle.book.proofs.reach.Goals as goal

pub returns-then-id-bytes : goal.returns-then-id-bytes
returns-then-id-bytes c = search (reach-found, rules)

pub loop-i-preserved : goal.loop-i-preserved
loop-i-preserved c = search (reach-turn, rules)

pub returns : goal.returns
returns c = search (reach-end, rules)
