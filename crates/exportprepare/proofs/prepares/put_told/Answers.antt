-- The seven numbers of an event.
use Rattle.exportprepare.specs.Prepares.{event_of}
use Rattle.exportprepare.proofs.Prepared.{told-made}
use Rattle.export.specs.Stored.{laid-there}
use borrow.Author.Rules.{rules}
use Rattle.exportprepare.proofs.prepares.put_told.Goals as goal

pub returns : goal.returns
unfolding event_of
returns c = search (laid-there, told-made, rules)
