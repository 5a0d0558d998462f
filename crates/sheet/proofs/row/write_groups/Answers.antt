use Rattle.sheet.proofs.Walking.{rounds-first, rounds-fault, rounds-done, rounds-again}
use native.Mathlib.Omega.{arith}
use borrow.Author.Rules.{rules}
use Rattle.sheet.proofs.row.write_groups.Goals as goal

pub loop-why-init : goal.loop-why-init
loop-why-init c = search (rounds-first, rules)

pub returns-in-Err : goal.returns-in-Err
returns-in-Err c = search (rounds-fault, rules)

pub returns-then-more-eq0 : goal.returns-then-more-eq0
returns-then-more-eq0 c = search (rounds-done, rules)

pub loop-why-smaller : goal.loop-why-smaller
loop-why-smaller c = omega arith

pub loop-why-preserved : goal.loop-why-preserved
loop-why-preserved c = search (rounds-again, rules)
