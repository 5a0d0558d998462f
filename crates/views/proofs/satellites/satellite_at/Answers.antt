-- `satellite_at`: the sheet is judged, then looked at.
use Rattle.views.proofs.Calls.{satellite-refused, satellite-unknown, satellite-listed, satellite-said}
use borrow.Author.Rules.{rules}
use Rattle.views.proofs.satellites.satellite_at.Goals as goal

pub nth_satellite-requires : goal.nth_satellite-requires
nth_satellite-requires c = search (satellite-listed, rules)

pub returns-in-Err : goal.returns-in-Err
returns-in-Err c = search (satellite-refused, rules)

pub returns-in-None : goal.returns-in-None
returns-in-None c = search (satellite-unknown, rules)

pub returns-in-Some : goal.returns-in-Some
returns-in-Some c = search (satellite-said, rules)
