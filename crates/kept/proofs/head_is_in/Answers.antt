-- `head_is_in`: a sound head, and then either a form that says the SIOU or an unknown one.
use borrow.Author.Rules.{rules}
use Rattle.kept.specs.Kept.{head_in}
use Rattle.kept.proofs.head_is_in.Goals as goal

pub returns-else-head_is_sound : goal.returns-else-head_is_sound
unfolding head_in
returns-else-head_is_sound c = search rules

pub returns-then-form-ge2 : goal.returns-then-form-ge2
unfolding head_in
returns-then-form-ge2 c = search rules

pub returns-else-form-ge2 : goal.returns-else-form-ge2
unfolding head_in
returns-else-form-ge2 c = search rules
