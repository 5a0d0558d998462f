use Rattle.std.proofs.lemmas.Result.{err_from_is_err_and}
use Rattle.sheet.proofs.Writing.{turn-first, turn-over, turn-done, turn-short, turn-fault, turn-again}
use Rattle.sheet.proofs.WritingRows.{row-fault, row-less, row-again}
use native.Mathlib.Omega.{arith}
use borrow.Author.Rules.{rules}
use Rattle.std.proofs.Common.{refl}
use Rattle.sheet.proofs.write_pass.Goals as goal

pub loop-out-init : goal.loop-out-init
loop-out-init c = turn-first _ _ _

pub returns-in_err-reached : goal.returns-in_err-reached
returns-in_err-reached c =
    let p = err_from_is_err_and c.from_residual.result c.from_residual.ensures.1 in
    rw (p.1, p.2) (row-fault c.loop-out.invariant _ c.row_of-row.ensures c.if-row-ne0.true _ _ c.write_row.ensures _ c.in_err-reached.was)

pub loop-out-smaller-then-row-ne0 : goal.loop-out-smaller-then-row-ne0
loop-out-smaller-then-row-ne0 c =
    row-less c.loop-out.invariant _ c.row_of-row.ensures c.if-row-ne0.true _ _ c.write_row.ensures _ c.in_ok-reached.was

pub loop-out-preserved-then-row-ne0 : goal.loop-out-preserved-then-row-ne0
loop-out-preserved-then-row-ne0 c =
    row-again c.loop-out.invariant _ c.row_of-row.ensures c.if-row-ne0.true _ _ c.write_row.ensures _ c.in_ok-reached.was _ c.write_row.auto.out
    c.after-s.ensures

pub returns-then-at-sheet : goal.returns-then-at-sheet
returns-then-at-sheet c = rw c.from.ensures (search (turn-over, rules))

pub returns-then-width-eq0 : goal.returns-then-width-eq0
returns-then-width-eq0 c = search (turn-done, rules)

pub returns-then-sheet-at : goal.returns-then-sheet-at
returns-then-sheet-at c = search (turn-short, rules)

pub returns-in-Err : goal.returns-in-Err
returns-in-Err c =
    turn-fault c.loop-out.invariant c.field_of-field.result c.field_of-field.ensures c.if-width-eq0.false c.if-sheet-at.false _
    c.in-Err.ensures _ _ refl c.fault_at-in-Err.ensures

pub loop-out-smaller : goal.loop-out-smaller
loop-out-smaller c = omega arith

pub loop-out-preserved : goal.loop-out-preserved
loop-out-preserved c =
    turn-again c.loop-out.invariant c.field_of-field.result c.field_of-field.ensures c.if-width-eq0.false c.if-sheet-at.false _
    c.in-Ok.ensures _ _ _ refl c.put.auto.s c.put.ensures.s_after c.counted-pos.ensures c.advance-s.ensures
