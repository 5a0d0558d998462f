-- The tests are those of `judging`, in its order.
use Rattle.sheet.proofs.Reading.{judge-length, is_known, is-good, judge-unknown}
use borrow.Author.Rules.{rules}
use Rattle.sheet.proofs.judge.Goals as goal

pub returns-then-bad_length : goal.returns-then-bad_length
returns-then-bad_length c = rw c.from-then-bad_length.ensures (search (judge-length, rules))

pub judge_known-requires : goal.judge_known-requires
judge_known-requires c = search (is_known, is-good, rules)

pub returns-in-None : goal.returns-in-None
returns-in-None c = search (judge-unknown, rules)
