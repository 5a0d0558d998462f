-- `check_description`: the tests are those of `described`, in its order.
use Rattle.frame.proofs.Checking.{described-short, described-bad, described-on}
use borrow.Author.Rules.{rules}
use Rattle.frame.proofs.check_description.Goals as goal

pub returns-then-bytes-at : goal.returns-then-bytes-at
returns-then-bytes-at c = search (described-short, rules)

pub returns-then-bad_authentication : goal.returns-then-bad_authentication
returns-then-bad_authentication c = search (described-bad, rules)

pub returns : goal.returns
returns c = search (described-on, rules)
