-- The three numbers of an event.
use Rattle.export.specs.Streams.{event_of}
use Rattle.export.proofs.Laws.{cons-as}
use Rattle.export.specs.Stored.{laid-there}
use borrow.Author.Rules.{rules}
use Rattle.export.proofs.streams.put_told.Goals as goal

pub returns : goal.returns
unfolding event_of
returns c = search (laid-there, cons-as, rules)
