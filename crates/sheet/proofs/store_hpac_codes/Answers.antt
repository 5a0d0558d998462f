-- The layout of a subtype is that of its constellation.
use Rattle.sheet.proofs.Reading.{filled-hpac, filled-no-hpac}
use borrow.Author.Rules.{rules}
use Rattle.sheet.proofs.store_hpac_codes.Goals as goal

pub returns-in-Some : goal.returns-in-Some
returns-in-Some c = search (filled-hpac, filled-no-hpac, rules)

pub returns-in-None : goal.returns-in-None
returns-in-None c = search (filled-hpac, filled-no-hpac, rules)
