-- The numbers are the area's.
use Rattle.exportviews.specs.Areas.{hpac_numbers_of}
use Rattle.export.specs.Stored.{laid-there}
use borrow.Author.Rules.{rules}
use Rattle.exportviews.proofs.areas.put_hpac.Goals as goal

pub returns : goal.returns
unfolding hpac_numbers_of
returns c = search (laid-there, rules)
