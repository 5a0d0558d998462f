-- The match gives the field at each state.
use Rattle.answer.specs.Matched.{matched}
use borrow.Author.Rules.{rules}
use Rattle.message.proofs.field_of.Goals as goal

pub returns : goal.returns
returns c = search (matched, rules)
