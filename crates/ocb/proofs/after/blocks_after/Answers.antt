-- Each side of the test gives what the definition picks.
use Rattle.ocb.specs.Rows.{step_same, step_other}
use borrow.Author.Rules.{rules}
use Rattle.ocb.proofs.after.blocks_after.Goals as goal

pub returns-then-bias-eq1 : goal.returns-then-bias-eq1
returns-then-bias-eq1 c = search (step_same, step_other, rules)

pub returns : goal.returns
returns c = search (step_same, step_other, rules)
