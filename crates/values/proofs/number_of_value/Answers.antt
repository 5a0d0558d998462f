-- `number_of_value`: the refusal's number, or 0 for anything else.
use Rattle.values.proofs.Answers.{number-if-not-refused}
use borrow.Author.Rules.{rules}
use Rattle.values.proofs.number_of_value.Goals as goal

pub returns-in_default : goal.returns-in_default
returns-in_default c = search (number-if-not-refused, rules)
