-- `part_of`: a one moved up is a power of two, and not 0.
use Rattle.frame.proofs.Reading.{part-some, part-is}
use borrow.Author.Rules.{rules}
use Rattle.frame.proofs.part_of.Goals as goal

pub nonzero_rem-result : goal.nonzero_rem-result
nonzero_rem-result c = search (part-some, rules)

pub returns : goal.returns
returns c = search (part-is, rules)
