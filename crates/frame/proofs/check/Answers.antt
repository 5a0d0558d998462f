-- `check`: the tests are those of `checked`, in its order.
use Rattle.frame.proofs.Checking.{check-1, check-2, check-3, check-4, check-5, check-6}
use borrow.Author.Rules.{rules}
use Rattle.frame.proofs.check.Goals as goal

pub returns-then-bytes-lt1 : goal.returns-then-bytes-lt1
returns-then-bytes-lt1 c = search (check-1, rules)

pub returns-then-bytes-ne115 : goal.returns-then-bytes-ne115
returns-then-bytes-ne115 c = search (check-2, rules)

pub returns-then-bytes-lt4 : goal.returns-then-bytes-lt4
returns-then-bytes-lt4 c = search (check-3, rules)

pub returns-then-crc-small_at : goal.returns-then-crc-small_at
returns-then-crc-small_at c = search (check-4, rules)

pub returns-then-payload_length-eq0 : goal.returns-then-payload_length-eq0
returns-then-payload_length-eq0 c = search (check-5, rules)

pub returns : goal.returns
returns c = search (check-6, rules)
