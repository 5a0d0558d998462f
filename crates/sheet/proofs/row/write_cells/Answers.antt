use Rattle.sheet.proofs.Walking.{writing-first, writing-done, writing-short, writing-fault, writing-again}
use native.Mathlib.Omega.{arith}
use borrow.Author.Rules.{rules}
use Rattle.sheet.proofs.row.write_cells.Goals as goal

pub loop-word-init : goal.loop-word-init
loop-word-init c = search (writing-first, rules)

pub returns-then-sheet-at : goal.returns-then-sheet-at
returns-then-sheet-at c = search (writing-short, rules)

pub returns-then-refuses : goal.returns-then-refuses
returns-then-refuses c = search (writing-fault, rules)

pub loop-word-smaller : goal.loop-word-smaller
loop-word-smaller c = omega arith

pub loop-word-preserved : goal.loop-word-preserved
loop-word-preserved c = search (writing-again, rules)

pub returns : goal.returns
returns c = search (writing-done, rules)
