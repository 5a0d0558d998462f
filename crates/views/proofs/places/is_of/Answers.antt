-- `is_of`: both tests.
use Rattle.views.proofs.Seeks.{is-other, is-both}
use borrow.Author.Rules.{rules}
use Rattle.views.proofs.places.is_of.Goals as goal

pub returns-then-field-sf : goal.returns-then-field-sf
returns-then-field-sf c = search (is-other, rules)

pub returns : goal.returns
returns c = search (is-both, rules)
