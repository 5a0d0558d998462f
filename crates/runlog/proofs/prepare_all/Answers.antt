use mathlib.Core.Path.{refl}
use Rattle.runlog.proofs.Turns.{first-turn}
use Rattle.runlog.proofs.Reading.{first-reading, next-read, turns-over, reads_over}
use borrow.Author.Rules.{rules}
use Rattle.runlog.proofs.prepare_all.Goals as goal

pub loop-turns-init : goal.loop-turns-init
loop-turns-init c = (search (first-turn, first-reading, rules), refl)

pub returns-then-turns-eq0 : goal.returns-then-turns-eq0
returns-then-turns-eq0 c = search (turns-over, rules)

pub returns-then-not-turn : goal.returns-then-not-turn
returns-then-not-turn c = search (reads_over, rules)

pub loop-turns-preserved : goal.loop-turns-preserved
loop-turns-preserved c = (search (next-read, rules), search rules)
