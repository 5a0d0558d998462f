-- Up to 512 it is the SIOU plus one, or 0 of an unknown one.
use borrow.Author.Rules.{rules}
use Rattle.export.proofs.Laws.{most-is}
use Rattle.export.proofs.books.siou_in.Goals as goal

pub returns : goal.returns
returns c = search (most-is, rules)
