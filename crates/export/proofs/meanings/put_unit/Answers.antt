-- Two numbers into two places.
use Rattle.export.specs.Stored.{stored_there}
use borrow.Author.Rules.{rules}
use Rattle.export.proofs.meanings.put_unit.Goals as goal

pub returns : goal.returns
returns c = search (stored_there, rules)
