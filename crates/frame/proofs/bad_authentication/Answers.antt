-- `bad_authentication`: TF015 is judged where it counts.
use Rattle.frame.proofs.Checking.{counts, judged-code, judged-none}
use borrow.Author.Rules.{rules}
use Rattle.frame.proofs.bad_authentication.Goals as goal

pub authentication_length-requires : goal.authentication_length-requires
authentication_length-requires c = search (counts, rules)

pub returns-then-is_authenticated : goal.returns-then-is_authenticated
returns-then-is_authenticated c = search (judged-code, rules)

pub returns : goal.returns
returns c = search (judged-none, rules)
