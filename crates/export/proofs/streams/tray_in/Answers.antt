-- Each number is at its place.
use Rattle.export.proofs.States.{tray-in}
use borrow.Author.Rules.{rules}
use Rattle.export.proofs.streams.tray_in.Goals as goal

pub returns : goal.returns
returns c = search (tray-in, rules)
