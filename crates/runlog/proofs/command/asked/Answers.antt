-- Three numbers and the form, or nothing is wanted: each word is tested in turn.
use Rattle.runlog.proofs.Wanting.{all-numbers, no-constellation, no-processor, no-solution}
use borrow.Author.Rules.{rules}
use Rattle.runlog.proofs.command.asked.Goals as goal

pub returns : goal.returns
returns c = search (all-numbers, c.in_ok-solution.was, c.in_ok-processor.was, c.in_ok-constellation.was, rules)

pub returns-in_err-solution : goal.returns-in_err-solution
returns-in_err-solution c = rw c.from_residual.ensures (search (no-solution, c.in_err-solution.was, rules))

pub returns-in_err-processor : goal.returns-in_err-processor
returns-in_err-processor c = rw c.from_residual-in_err-processor.ensures (search (no-processor, c.in_ok-solution.was, c.in_err-processor.was, rules))

pub returns-in_err-constellation : goal.returns-in_err-constellation
returns-in_err-constellation c = rw c.from_residual-in_err-constellation.ensures (search (no-constellation, c.in_ok-solution.was, c.in_ok-processor.was, c.in_err-constellation.was, rules))
