-- `quotient_about`: the difference of two numbers of 16 bits fits 32 bits with a sign, so it comes back as it is, and the division is the definition's.
use Rattle.values.proofs.Answers.{difference-fits, about-is}
use borrow.Author.Rules.{rules}
use Rattle.values.proofs.quotient_about.Goals as goal

pub overflow_sub-result : goal.overflow_sub-result
overflow_sub-result c = search (difference-fits, rules)

pub returns : goal.returns
returns c = search (about-is, rules)
