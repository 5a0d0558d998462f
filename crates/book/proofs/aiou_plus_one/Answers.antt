-- `aiou_plus_one`: the field is there, and below 16.
use Rattle.book.proofs.Blocks.{aiou-fits, aiou-small, aiou-is}
use borrow.Author.Rules.{rules}
use Rattle.book.proofs.aiou_plus_one.Goals as goal

pub overflow_add-result : goal.overflow_add-result
overflow_add-result c = record { fits = search (aiou-fits, rules) }

pub overflow_cast-result : goal.overflow_cast-result
overflow_cast-result c = record { fits = search (aiou-small, rules) }

pub returns : goal.returns
returns c = search (aiou-is, rules)
