-- A case for each residual.
use Rattle.export.specs.Numbers.{laid}
use Rattle.export.specs.Meanings.{numbers_of_residual, floats_of_residual}
use Rattle.export.proofs.Laws.{arm-of}
use borrow.Author.Rules.{rules}
use Rattle.export.proofs.meanings.tell_residual.Goals as goal

pub returns-in-Invalid-clause-value : goal.returns-in-Invalid-clause-value
unfolding numbers_of_residual floats_of_residual
returns-in-Invalid-clause-value c = search rules

pub returns-in-Invalid-clause-what_after : goal.returns-in-Invalid-clause-what_after
unfolding numbers_of_residual floats_of_residual
returns-in-Invalid-clause-what_after c = search (arm-of (λ x. laid (numbers_of_residual x)), rules)

pub returns-in-Invalid-clause-value_after : goal.returns-in-Invalid-clause-value_after
unfolding numbers_of_residual floats_of_residual
returns-in-Invalid-clause-value_after c = search (arm-of floats_of_residual, rules)

pub returns-in-Metres-clause-value : goal.returns-in-Metres-clause-value
unfolding numbers_of_residual floats_of_residual
returns-in-Metres-clause-value c = search rules

pub returns-in-Metres-clause-what_after : goal.returns-in-Metres-clause-what_after
unfolding numbers_of_residual floats_of_residual
returns-in-Metres-clause-what_after c = search (arm-of (λ x. laid (numbers_of_residual x)), rules)

pub returns-in-Metres-clause-value_after : goal.returns-in-Metres-clause-value_after
unfolding numbers_of_residual floats_of_residual
returns-in-Metres-clause-value_after c = search (arm-of floats_of_residual, rules)

pub returns-in-Tecu-clause-value : goal.returns-in-Tecu-clause-value
unfolding numbers_of_residual floats_of_residual
returns-in-Tecu-clause-value c = search rules

pub returns-in-Tecu-clause-what_after : goal.returns-in-Tecu-clause-what_after
unfolding numbers_of_residual floats_of_residual
returns-in-Tecu-clause-what_after c = search (arm-of (λ x. laid (numbers_of_residual x)), rules)

pub returns-in-Tecu-clause-value_after : goal.returns-in-Tecu-clause-value_after
unfolding numbers_of_residual floats_of_residual
returns-in-Tecu-clause-value_after c = search (arm-of floats_of_residual, rules)
