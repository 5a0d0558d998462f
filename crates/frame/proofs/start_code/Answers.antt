-- `start_code`: one code for six fields, and TF006 of its bytes.
use Rattle.frame.proofs.Writing.{start_is}
use borrow.Author.Rules.{rules}
use Rattle.frame.proofs.start_code.Goals as goal

pub returns : goal.returns
returns c = search (start_is, rules)
