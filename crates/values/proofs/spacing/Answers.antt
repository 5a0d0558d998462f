-- `spacing`: the list, an entry a test; past it there are no steps.
use Rattle.values.proofs.Answers.{spacing-past}
use borrow.Author.Rules.{rules}
use Rattle.values.proofs.spacing.Goals as goal

pub returns : goal.returns
returns c = search (spacing-past, rules)
