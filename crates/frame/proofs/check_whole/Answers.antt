-- `check_whole`: the tests are those of `whole`, in its order.
use Rattle.frame.proofs.Checking.{whole-short, whole-bad, whole-good}
use borrow.Author.Rules.{rules}
use Rattle.frame.proofs.check_whole.Goals as goal

pub returns-then-bytes-at : goal.returns-then-bytes-at
returns-then-bytes-at c = search (whole-short, rules)

pub returns-then-crc-tail_at : goal.returns-then-crc-tail_at
returns-then-crc-tail_at c = search (whole-bad, rules)

pub returns : goal.returns
returns c = search (whole-good, rules)
