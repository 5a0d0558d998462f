-- Constellation or a flag out of range, or all in range.
use Rattle.exportdesk.proofs.Thirteen.{no-constellation, no_flag, no-dated, solution-is}
use borrow.Author.Rules.{rules}
use Rattle.exportdesk.proofs.states.solution_in.Goals as goal

pub returns-then-constellation-gt4 : goal.returns-then-constellation-gt4
returns-then-constellation-gt4 c = search (no-constellation, rules)

pub returns-then-running-gt1 : goal.returns-then-running-gt1
returns-then-running-gt1 c = search (no_flag, rules)

pub returns-then-dated-gt1 : goal.returns-then-dated-gt1
returns-then-dated-gt1 c = search (no-dated, rules)

pub returns : goal.returns
returns c = search (solution-is, rules)
