-- `tag_kind`: a field past the end says 0.
use Rattle.frame.proofs.Reading.{kind-absent}
use borrow.Author.Rules.{rules}
use Rattle.frame.proofs.tag_kind.Goals as goal

pub returns-then-bytes-lt5 : goal.returns-then-bytes-lt5
returns-then-bytes-lt5 c = search (kind-absent, rules)
