-- A sheet that is not accepted alters nothing; the bits kept aside are copied, with the fill behind them.
use Rattle.sheet.proofs.Writing.{whole-refused, fill-times, fill-under, fill-few, whole-written}
use Rattle.std.proofs.lemmas.Result.{err_from_is_err_and}
use borrow.Author.Rules.{rules}
use Rattle.std.proofs.Common.{◌++◌, drop, refl, ap}
use Rattle.sheet.proofs.write_by.Goals as goal

pub overflow_mul-fill : goal.overflow_mul-fill
overflow_mul-fill c = search (fill-times, rules)

pub overflow_sub-fill : goal.overflow_sub-fill
overflow_sub-fill c = search (fill-under, rules)

pub overflow_cast-fill : goal.overflow_cast-fill
overflow_cast-fill c = search (fill-few, rules)

pub returns-in_err-written : goal.returns-in_err-written
returns-in_err-written c =
    let p = err_from_is_err_and c.from_residual.result c.from_residual.ensures.1 in
    rw (p.1, p.2) (search (whole-refused, rules))

pub returns : goal.returns
returns c =
    whole-written _ _ c.in_ok-written.ensures c.in_ok-written.written.bits c.in_ok-written.written.bytes refl c.put.new.s _ c.requires.0 c.requires.1 c.keep_sheet.auto.aside c.put.auto.s c.put.ensures.s_after
    (ap (λ x. x ++ drop c.in_ok-written.written.bytes c.args.out.now) c.copy_from_slice.ensures.after)
