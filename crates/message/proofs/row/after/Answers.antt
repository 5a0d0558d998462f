-- The match gives the state after the row at each state.
use Rattle.answer.specs.Matched.{matched}
use borrow.Author.Rules.{rules}
use Rattle.message.proofs.row.after.Goals as goal

pub returns : goal.returns
returns c = search (matched, rules)
