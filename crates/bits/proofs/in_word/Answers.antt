-- What stood in the n bits is taken away, and the n low bits of the code are added (`put_word`).
use Rattle.bits.proofs.Steps.{old-under, word_fits, word-placed}
use borrow.Author.Rules.{rules}
use Rattle.bits.proofs.in_word.Goals as goal

pub overflow_sub-result : goal.overflow_sub-result
overflow_sub-result c = search (old-under, rules)

pub overflow_add-result : goal.overflow_add-result
overflow_add-result c = search (word_fits, rules)

pub returns : goal.returns
returns c = search (word-placed, rules)
