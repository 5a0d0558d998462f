-- Up to 15 it is the AIOU.
use borrow.Author.Rules.{rules}
use Rattle.export.proofs.States.{aiou-is}
use Rattle.export.proofs.books.aiou_in.Goals as goal

pub returns : goal.returns
returns c = search (aiou-is, rules)
