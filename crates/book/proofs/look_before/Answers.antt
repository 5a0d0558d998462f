use Rattle.book.proofs.Blocks.{back_start, back_none, back_found, back-turn}
use borrow.Author.Rules.{rules}
use Rattle.book.proofs.look_before.Goals as goal

pub loop-i-init : goal.loop-i-init
loop-i-init c = search (back_start, rules)

pub returns-then-id : goal.returns-then-id
returns-then-id c = search (back_found, rules)

pub loop-i-preserved : goal.loop-i-preserved
loop-i-preserved c = search (back-turn, rules)

pub returns : goal.returns
returns c = search (back_none, rules)
