-- Each slice is written by its own call.
use Rattle.export.specs.Stored.{tray-there}
use Rattle.exportdesk.specs.Stored.{desk-there}
use borrow.Author.Rules.{rules}
use Rattle.exportprepare.proofs.prepares.put_event.Goals as goal

pub returns-clause-tray_after : goal.returns-clause-tray_after
returns-clause-tray_after c = search (tray-there, rules)

pub returns-clause-desk_after : goal.returns-clause-desk_after
returns-clause-desk_after c = search (desk-there, rules)
