-- `put_number`: the groups are put into the part that starts there.
use Rattle.kept.proofs.Putting.{number_fits, number-ends, number-laid}
use borrow.Author.Rules.{rules}
use Rattle.kept.proofs.put_number.Goals as goal

pub overflow_add-result : goal.overflow_add-result
overflow_add-result c = record { fits = search (number_fits, rules) }

pub returns-clause-value : goal.returns-clause-value
returns-clause-value c = search (number-ends, rules)

pub returns-clause-out_after : goal.returns-clause-out_after
returns-clause-out_after c = search (number-laid, rules)
