-- What the pass comes to is what the layout's writing gives.
use Rattle.sheet.proofs.Writing.{keep-fault, keep-length, keep-whole, count_small}
use Rattle.std.proofs.lemmas.Result.{err_from_is_err_and}
use borrow.Author.Rules.{rules}
use Rattle.sheet.proofs.keep_sheet.Goals as goal

pub overflow_add-bytes : goal.overflow_add-bytes
overflow_add-bytes c = search (count_small, rules)

pub returns-then-bad_length : goal.returns-then-bad_length
returns-then-bad_length c = rw c.from.ensures (search (keep-length, c.in_ok-bits.was, rules))

pub returns-in_err-bits : goal.returns-in_err-bits
returns-in_err-bits c =
    let p = err_from_is_err_and c.from_residual.result c.from_residual.ensures.1 in
    rw (p.1, p.2) (search (keep-fault, c.in_err-bits.was, rules))

pub returns : goal.returns
returns c = search (keep-whole, c.in_ok-bits.was, rules)
