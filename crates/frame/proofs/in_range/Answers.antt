-- `in_range`: the tests are those of `in_range`, in its order.
use Rattle.frame.proofs.Writing.{range-1, range-2, range-3, range-4, range-5, range-6, range-7}
use borrow.Author.Rules.{rules}
use Rattle.frame.proofs.in_range.Goals as goal

pub returns-then-parts-gt127 : goal.returns-then-parts-gt127
returns-then-parts-gt127 c = search (range-1, rules)

pub returns-then-parts-gt3 : goal.returns-then-parts-gt3
returns-then-parts-gt3 c = search (range-2, rules)

pub returns-then-parts-gt15 : goal.returns-then-parts-gt15
returns-then-parts-gt15 c = search (range-3, rules)

pub returns-then-parts-gt1 : goal.returns-then-parts-gt1
returns-then-parts-gt1 c = search (range-4, rules)

pub returns-then-not-tag_fits : goal.returns-then-not-tag_fits
returns-then-not-tag_fits c = search (range-5, rules)

pub returns-then-parts-gt127-2 : goal.returns-then-parts-gt127-2
returns-then-parts-gt127-2 c = search (range-6, rules)

pub returns : goal.returns
returns c = search (range-7, rules)
