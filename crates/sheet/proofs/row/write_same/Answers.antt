use Rattle.sheet.proofs.Repeats.{same-write-first, same-write-short, same-write-fault, same-write-done, same-write-again}
use native.Mathlib.Omega.{arith}
use borrow.Author.Rules.{rules}
use Rattle.sheet.proofs.row.write_same.Goals as goal

pub loop-next-init : goal.loop-next-init
loop-next-init c = search (same-write-first, rules)

pub returns-then-sheet-next : goal.returns-then-sheet-next
returns-then-sheet-next c = search (same-write-short, rules)

pub returns-then-refuses : goal.returns-then-refuses
returns-then-refuses c = search (same-write-fault, rules)

pub returns-then-left-eq0 : goal.returns-then-left-eq0
returns-then-left-eq0 c = search (same-write-done, rules)

pub loop-next-smaller : goal.loop-next-smaller
loop-next-smaller c = omega arith

pub loop-next-preserved : goal.loop-next-preserved
loop-next-preserved c = search (same-write-again, rules)
