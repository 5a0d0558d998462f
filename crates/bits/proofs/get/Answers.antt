-- Out of one word where there is one (`get-word`), and else by bytes, which is proved to say the same.
use Rattle.bits.proofs.Steps.{word-here, word_width, word-shift, get-by-word}
use borrow.Author.Rules.{rules}
use Rattle.bits.proofs.get.Goals as goal

pub eight_at-requires : goal.eight_at-requires
eight_at-requires c = search (word-here, rules)

pub overflow_sub-result : goal.overflow_sub-result
overflow_sub-result c = search (word_width, rules)

pub overflow_shr-result : goal.overflow_shr-result
overflow_shr-result c = search (word-shift, rules)

pub returns-then-in_one_word : goal.returns-then-in_one_word
returns-then-in_one_word c = search (get-by-word, rules)
