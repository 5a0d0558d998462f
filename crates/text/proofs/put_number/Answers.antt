-- The fewest digits that hold a number are its decimal digits.
use Rattle.text.proofs.Putting.{number-end, number-out}
use Rattle.text.specs.Decimal.{decimal-short}
use borrow.Author.Rules.{rules}
use Rattle.text.proofs.put_number.Goals as goal

pub returns : goal.returns
returns c = search (number-end, number-out, decimal-short, rules)
