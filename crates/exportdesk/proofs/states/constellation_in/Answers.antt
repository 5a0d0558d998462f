-- A known one, or the first.
use Rattle.exportdesk.proofs.Thirteen.{constellation-known, constellation-unknown}
use borrow.Author.Rules.{rules}
use Rattle.exportdesk.proofs.states.constellation_in.Goals as goal

pub returns-in-Some : goal.returns-in-Some
returns-in-Some c = search (constellation-known, rules)

pub returns-in-None : goal.returns-in-None
returns-in-None c = search (constellation-unknown, rules)
