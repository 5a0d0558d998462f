-- `tag_fits`: a kind below two is 0 or 1.
use Rattle.frame.proofs.Writing.{fits-short, fits-long}
use borrow.Author.Rules.{rules}
use Rattle.frame.proofs.tag_fits.Goals as goal

pub returns-then-kind-eq0 : goal.returns-then-kind-eq0
returns-then-kind-eq0 c = search (fits-short, rules)

pub returns : goal.returns
returns c = search (fits-long, rules)
