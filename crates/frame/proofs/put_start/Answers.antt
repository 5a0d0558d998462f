-- `put_start`: one code of four bytes is put.
use Rattle.frame.proofs.Writing.{start-laid}
use borrow.Author.Rules.{rules}
use Rattle.frame.proofs.put_start.Goals as goal

pub returns : goal.returns
returns c = search (start-laid, rules)
