-- `head_is_sound`: the tests are those of `head_sound`.
use borrow.Author.Rules.{rules}
use Rattle.book.specs.Book.{head_sound}
use Rattle.book.proofs.head_is_sound.Goals as goal

pub returns-then-aiou-le16 : goal.returns-then-aiou-le16
unfolding head_sound
returns-then-aiou-le16 c = search rules

pub returns-else-aiou-le16 : goal.returns-else-aiou-le16
unfolding head_sound
returns-else-aiou-le16 c = search rules
