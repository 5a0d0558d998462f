-- `siou_plus_one`: the field is there, and below 512.
use Rattle.book.proofs.Blocks.{siou-fits, siou-small, siou-is}
use borrow.Author.Rules.{rules}
use Rattle.book.proofs.siou_plus_one.Goals as goal

pub overflow_add-result : goal.overflow_add-result
overflow_add-result c = record { fits = search (siou-fits, rules) }

pub overflow_cast-result : goal.overflow_cast-result
overflow_cast-result c = record { fits = search (siou-small, rules) }

pub returns : goal.returns
returns c = search (siou-is, rules)
