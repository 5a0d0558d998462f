-- The two numbers have room.
use Rattle.export.specs.Stored.{stored_there}
use borrow.Author.Rules.{rules}
use Rattle.exportentries.proofs.put_code.Goals as goal

pub returns : goal.returns
returns c = search (stored_there, rules)
