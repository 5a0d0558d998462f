-- `small_at`: the bits of one byte, or of two.
use Rattle.frame.proofs.Reading.{octet-fits, small-fits, small_one, small-two}
use borrow.Author.Rules.{rules}
use Rattle.frame.proofs.small_at.Goals as goal

pub octet-requires : goal.octet-requires
octet-requires c = search (octet-fits, rules)

pub returns-then-from-width-le8 : goal.returns-then-from-width-le8
returns-then-from-width-le8 c = search (small_one, small-fits, rules)

pub octet-requires-2 : goal.octet-requires-2
octet-requires-2 c = search (octet-fits, rules)

pub returns : goal.returns
returns c = search (small-two, small-fits, rules)
