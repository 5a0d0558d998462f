-- One number into one place.
use Rattle.export.specs.Stored.{stored_there}
use borrow.Author.Rules.{rules}
use Rattle.exportviews.proofs.areas.put_none.Goals as goal

pub returns : goal.returns
returns c = search (stored_there, rules)
