-- The match gives the next state at each state.
use Rattle.answer.specs.Matched.{matched}
use borrow.Author.Rules.{rules}
use Rattle.message.proofs.advance.Goals as goal

pub returns : goal.returns
returns c = search (matched, rules)
