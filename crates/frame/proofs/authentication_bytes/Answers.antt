-- `authentication_bytes`: a case for each code.
use Rattle.frame.proofs.Checking.{bytes-0, bytes-1, bytes_2, bytes-3, bytes_4}
use borrow.Author.Rules.{rules}
use Rattle.frame.proofs.authentication_bytes.Goals as goal

pub returns-then-code-eq0 : goal.returns-then-code-eq0
returns-then-code-eq0 c = search (bytes-0, rules)

pub returns-then-code-eq1 : goal.returns-then-code-eq1
returns-then-code-eq1 c = search (bytes-1, rules)

pub returns-then-code-eq2 : goal.returns-then-code-eq2
returns-then-code-eq2 c = search (bytes_2, rules)

pub returns-then-code-eq3 : goal.returns-then-code-eq3
returns-then-code-eq3 c = search (bytes-3, rules)

pub returns : goal.returns
returns c = search (bytes_4, rules)
