-- `take_blocks`: a message that is judged taken is put into its places, unless none of its blocks is new (Taking.antt).
use Rattle.std.proofs.Common.{◌≡◌, Ok, Err}
use Rattle.book.proofs.Taking.{count-few, count_fits, count-image, count-ascending, is-taken, take-refused, left-refused, take-held, left-same, left-held}
use Rattle.std.proofs.lemmas.Result.{err_from_is_err_and}
use borrow.Author.Rules.{rules}
use Rattle.book.proofs.take_blocks.Goals as goal
use Rattle.book.proofs.take_blocks.Goals.{then-held-count, else-held-count}

pub judge-requires : goal.judge-requires
judge-requires c = search (count_fits, count-ascending, rules)

pub returns-in_err-held : goal.returns-in_err-held
returns-in_err-held c = let p = err_from_is_err_and c.from_residual.result c.from_residual.ensures.1 in rw (p.1, p.2) (let w : c.judge.result ≡ Err c.in_err-held.field-0.0 = c.in_err-held.was in search (take-refused, left-refused, rules))

pub insert_all-requires-clause-image : goal.insert_all-requires-clause-image
insert_all-requires-clause-image c = search (count-image, count-few, rules)

pub insert_all-requires-clause-bytes_value : goal.insert_all-requires-clause-bytes_value
insert_all-requires-clause-bytes_value c = let w : c.judge.result ≡ Ok c.in_ok-held.held = c.in_ok-held.was in search (is-taken, rules)

pub returns-clause-value : goal.returns-clause-value
returns-clause-value c = let w : c.judge.result ≡ Ok c.in_ok-held.held = c.in_ok-held.was in search (take-held, rules)

pub returns-clause-bytes_after : goal.returns-clause-bytes_after
returns-clause-bytes_after c =
    let h : c.judge.result ≡ Ok c.in_ok-held.held = c.in_ok-held.was in
    elim c.if-held-count.branch [
      | then-held-count w ↦ rw w.bytes-is (search (left-held, rules))
      | else-held-count w ↦ rw w.bytes-is (search (left-same, rules))
    ]
