-- Each number is at its place.
use Rattle.exportdesk.proofs.Thirteen.{desk-in}
use borrow.Author.Rules.{rules}
use Rattle.exportdesk.proofs.states.desk_in.Goals as goal

pub returns : goal.returns
returns c = search (desk-in, rules)
