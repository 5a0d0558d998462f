-- The fewest digits that hold a number are its decimal digits.
use Rattle.text.proofs.Putting.{number-waits, number-said}
use borrow.Author.Rules.{rules}
use Rattle.text.proofs.say_number.Goals as goal

pub returns : goal.returns
returns c = search (number-waits, number-said, rules)
