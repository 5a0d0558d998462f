-- Two numbers into two places.
use Rattle.exportviews.proofs.Laws.{two-there}
use borrow.Author.Rules.{rules}
use Rattle.exportviews.proofs.satellites.put_out_of_use.Goals as goal

pub returns : goal.returns
returns c = search (two-there, rules)
