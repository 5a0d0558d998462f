-- The two tests are those of `bad_length`.
use Rattle.sheet.proofs.Reading.{bad-none, bad-long}
use borrow.Author.Rules.{rules}
use Rattle.sheet.proofs.bad_length.Goals as goal

pub returns-then-bytes-eq0 : goal.returns-then-bytes-eq0
returns-then-bytes-eq0 c = search (bad-none, rules)

pub returns : goal.returns
returns c = search (bad-long, rules)
