-- `siou_is_sound`: the tests are those of `siou_sound`.
use borrow.Author.Rules.{rules}
use Rattle.book.specs.Book.{siou_sound}
use Rattle.book.proofs.siou_is_sound.Goals as goal

pub returns-else-siou_plus_one-le512 : goal.returns-else-siou_plus_one-le512
unfolding siou_sound
returns-else-siou_plus_one-le512 c = search rules

pub returns-then-aiou_plus_one-ne0 : goal.returns-then-aiou_plus_one-ne0
unfolding siou_sound
returns-then-aiou_plus_one-ne0 c = search rules

pub returns-else-aiou_plus_one-ne0 : goal.returns-else-aiou_plus_one-ne0
unfolding siou_sound
returns-else-aiou_plus_one-ne0 c = search rules
