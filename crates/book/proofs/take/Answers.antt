-- `take`: the tests are those of `outcome`, in its order; what the reader accepts stands at the bits that the code reads (`gad-at-bits`).
use Rattle.std.proofs.Common.{◌≡◌, ap, true, Err}
use Rattle.std.specs.Result.{is_ok}
use Rattle.book.proofs.Payloads.{take-room, left-room, take-state, left-state, take-sound, take-there, take-fault, left-fault, take-blocks, left-blocks}
use Rattle.std.proofs.lemmas.Result.{err_from_is_err_and}
use borrow.Author.Rules.{rules}
use Rattle.book.proofs.take.Goals as goal

pub returns-then-bytes-lt-BOOK_BYTES : goal.returns-then-bytes-lt-BOOK_BYTES
returns-then-bytes-lt-BOOK_BYTES c = search (take-room, left-room, rules)

pub returns-then-not-is_sound : goal.returns-then-not-is_sound
returns-then-not-is_sound c = search (take-state, left-state, rules)

pub returns-in_err-judge : goal.returns-in_err-judge
returns-in_err-judge c = let p = err_from_is_err_and c.from_residual.result c.from_residual.ensures.1 in rw (p.1, p.2) (let w : c.judge.result ≡ Err c.in_err-judge.field-0.0 = c.in_err-judge.was in search (take-fault, left-fault, rules))

pub take_blocks-requires : goal.take_blocks-requires
take_blocks-requires c = let w : is_ok c.judge.result ≡ true = ap is_ok c.in_ok-judge.was in (search rules, search (take-sound, rules), search (take-there, rules))

pub returns : goal.returns
returns c = let w : is_ok c.judge.result ≡ true = ap is_ok c.in_ok-judge.was in search (take-blocks, left-blocks, rules)
