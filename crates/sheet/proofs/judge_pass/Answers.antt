use Rattle.sheet.proofs.Reading.{turn-first, turn-done, turn-short, turn-fault, turn-again}
use native.Mathlib.Omega.{arith}
use borrow.Author.Rules.{rules}
use Rattle.sheet.proofs.judge_pass.Goals as goal

pub loop-s-init : goal.loop-s-init
loop-s-init c = search (turn-first, rules)

pub returns-then-width-eq0 : goal.returns-then-width-eq0
returns-then-width-eq0 c = search (turn-done, rules)

pub returns-then-total-pos : goal.returns-then-total-pos
returns-then-total-pos c = search (turn-short, rules)

pub returns-in-Err : goal.returns-in-Err
returns-in-Err c = search (turn-fault, rules)

pub loop-s-smaller : goal.loop-s-smaller
loop-s-smaller c = omega arith

pub loop-s-preserved : goal.loop-s-preserved
loop-s-preserved c = search (turn-again, rules)
