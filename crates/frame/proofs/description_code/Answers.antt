-- `description_code`: one code for five fields, the tag of 16 or of 32 bits.
use Rattle.frame.proofs.Writing.{tag-short, tag-long, description-short, description-long}
use borrow.Author.Rules.{rules}
use Rattle.frame.proofs.description_code.Goals as goal

pub around_short-requires : goal.around_short-requires
around_short-requires c = search (tag-short, rules)

pub returns-then-kind-eq0 : goal.returns-then-kind-eq0
returns-then-kind-eq0 c = search (description-short, rules)

pub around_long-requires : goal.around_long-requires
around_long-requires c = search (tag-long, rules)

pub returns : goal.returns
returns c = search (description-long, rules)
