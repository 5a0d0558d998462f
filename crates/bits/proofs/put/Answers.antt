-- In one word where there is one (`put-in-word`), and else by bytes, which is proved to do the same.
use Rattle.bits.proofs.Steps.{word-here, word-there, word_some, word-left, word-all, put-by-word}
use borrow.Author.Rules.{rules}
use Rattle.bits.proofs.put.Goals as goal

pub overflow_sub-m-then-in_one_word : goal.overflow_sub-m-then-in_one_word
overflow_sub-m-then-in_one_word c = search (word-left, rules)

pub eight_at-requires : goal.eight_at-requires
eight_at-requires c = search (word-here, rules)

pub in_word-word-requires : goal.in_word-word-requires
in_word-word-requires c = search (word_some, word-all, rules)

pub put_eight-requires : goal.put_eight-requires
put_eight-requires c = search (word-here, rules)

pub returns-then-in_one_word : goal.returns-then-in_one_word
returns-then-in_one_word c = search (word-there, put-by-word, rules)
