-- `put_check`: one code of one to four bytes is put.
use Rattle.frame.proofs.Writing.{check-laid}
use borrow.Author.Rules.{rules}
use Rattle.frame.proofs.put_check.Goals as goal

pub returns : goal.returns
returns c = search (check-laid, rules)
