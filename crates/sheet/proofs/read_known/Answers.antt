-- A payload that is not accepted alters nothing; one that is accepted is stored.
use Rattle.sheet.proofs.Reading.{both, read-refused, read-stored}
use Rattle.std.proofs.lemmas.Result.{err_from_is_err_and}
use borrow.Author.Rules.{rules}
use Rattle.bits.proofs.Clauses.{two}
use Rattle.sheet.proofs.read_known.Goals as goal

pub returns-in_err-extent : goal.returns-in_err-extent
returns-in_err-extent c =
    let p = err_from_is_err_and c.from_residual.result c.from_residual.ensures.1 in
    rw (p.1, p.2) (two (λ a b. record { value = a; sheet_after = b }) (both (search (read-refused, c.in_err-extent.was, rules))))

pub returns : goal.returns
returns c = two (λ a b. record { value = a; sheet_after = b }) (both (search (read-stored, c.in_ok-extent.was, rules)))
