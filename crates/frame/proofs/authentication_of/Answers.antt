-- `authentication_of`: there is authentication where TF015 counts.
use Rattle.frame.proofs.Checking.{counts, some_bytes, no_bytes}
use borrow.Author.Rules.{rules}
use Rattle.frame.proofs.authentication_of.Goals as goal

pub authentication_length-requires : goal.authentication_length-requires
authentication_length-requires c = search (counts, rules)

pub returns-then-is_authenticated : goal.returns-then-is_authenticated
returns-then-is_authenticated c = search (some_bytes, rules)

pub returns : goal.returns
returns c = search (no_bytes, rules)
