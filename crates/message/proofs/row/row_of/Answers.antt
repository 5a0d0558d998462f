-- The match gives the row at each state.
use Rattle.answer.specs.Matched.{matched}
use borrow.Author.Rules.{rules}
use Rattle.message.proofs.row.row_of.Goals as goal

pub returns : goal.returns
returns c = search (matched, rules)
