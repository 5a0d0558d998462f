-- `put_description`: one code of four or six bytes is put.
use Rattle.frame.proofs.Writing.{description-laid}
use borrow.Author.Rules.{rules}
use Rattle.frame.proofs.put_description.Goals as goal

pub returns : goal.returns
returns c = search (description-laid, rules)
