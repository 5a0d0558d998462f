-- A case for each answer.
use Rattle.export.specs.Meanings.{told_value, floats_of_value}
use Rattle.export.proofs.Laws.{number_in, numbers-in, arm-of, laid_none}
use borrow.Author.Rules.{rules}
use Rattle.export.proofs.meanings.tell_value.Goals as goal

pub returns-in-Metres-clause-value : goal.returns-in-Metres-clause-value
unfolding told_value floats_of_value
returns-in-Metres-clause-value c = search (number_in told_value, rules)

pub returns-in-Metres-clause-what_after : goal.returns-in-Metres-clause-what_after
unfolding told_value floats_of_value
returns-in-Metres-clause-what_after c = search (numbers-in told_value, rules)

pub returns-in-Metres-clause-value_after : goal.returns-in-Metres-clause-value_after
unfolding told_value floats_of_value
returns-in-Metres-clause-value_after c = search (arm-of floats_of_value, rules)

pub returns-in-Degrees-clause-value : goal.returns-in-Degrees-clause-value
unfolding told_value floats_of_value
returns-in-Degrees-clause-value c = search (number_in told_value, rules)

pub returns-in-Degrees-clause-what_after : goal.returns-in-Degrees-clause-what_after
unfolding told_value floats_of_value
returns-in-Degrees-clause-what_after c = search (numbers-in told_value, rules)

pub returns-in-Degrees-clause-value_after : goal.returns-in-Degrees-clause-value_after
unfolding told_value floats_of_value
returns-in-Degrees-clause-value_after c = search (arm-of floats_of_value, rules)

pub returns-in-Tecu-clause-value : goal.returns-in-Tecu-clause-value
unfolding told_value floats_of_value
returns-in-Tecu-clause-value c = search (number_in told_value, rules)

pub returns-in-Tecu-clause-what_after : goal.returns-in-Tecu-clause-what_after
unfolding told_value floats_of_value
returns-in-Tecu-clause-what_after c = search (numbers-in told_value, rules)

pub returns-in-Tecu-clause-value_after : goal.returns-in-Tecu-clause-value_after
unfolding told_value floats_of_value
returns-in-Tecu-clause-value_after c = search (arm-of floats_of_value, rules)

pub returns-in-Coefficient-clause-value : goal.returns-in-Coefficient-clause-value
unfolding told_value floats_of_value
returns-in-Coefficient-clause-value c = search (number_in told_value, rules)

pub returns-in-Coefficient-clause-what_after : goal.returns-in-Coefficient-clause-what_after
unfolding told_value floats_of_value
returns-in-Coefficient-clause-what_after c = search (numbers-in told_value, rules)

pub returns-in-Coefficient-clause-value_after : goal.returns-in-Coefficient-clause-value_after
unfolding told_value floats_of_value
returns-in-Coefficient-clause-value_after c = search (arm-of floats_of_value, rules)

pub returns-in-Count-clause-value : goal.returns-in-Count-clause-value
unfolding told_value floats_of_value
returns-in-Count-clause-value c = search (number_in told_value, rules)

pub returns-in-Count-clause-what_after : goal.returns-in-Count-clause-what_after
unfolding told_value floats_of_value
returns-in-Count-clause-what_after c = search (numbers-in told_value, rules)

pub returns-in-Count-clause-value_after : goal.returns-in-Count-clause-value_after
unfolding told_value floats_of_value
returns-in-Count-clause-value_after c = search (arm-of floats_of_value, rules)

pub returns-in-OfResidual-clause-value : goal.returns-in-OfResidual-clause-value
unfolding told_value floats_of_value
returns-in-OfResidual-clause-value c = search (number_in told_value, rules)

pub returns-in-OfResidual-clause-what_after : goal.returns-in-OfResidual-clause-what_after
unfolding told_value floats_of_value
returns-in-OfResidual-clause-what_after c = search (numbers-in told_value, rules)

pub returns-in-OfResidual-clause-value_after : goal.returns-in-OfResidual-clause-value_after
unfolding told_value floats_of_value
returns-in-OfResidual-clause-value_after c = search (arm-of floats_of_value, rules)

pub returns-in-OfYaw-clause-value : goal.returns-in-OfYaw-clause-value
unfolding told_value floats_of_value
returns-in-OfYaw-clause-value c = search (number_in told_value, rules)

pub returns-in-OfYaw-clause-what_after : goal.returns-in-OfYaw-clause-what_after
unfolding told_value floats_of_value
returns-in-OfYaw-clause-what_after c = search (numbers-in told_value, rules)

pub returns-in-OfYaw-clause-value_after : goal.returns-in-OfYaw-clause-value_after
unfolding told_value floats_of_value
returns-in-OfYaw-clause-value_after c = search (arm-of floats_of_value, rules)

pub returns-in-Refused-clause-value : goal.returns-in-Refused-clause-value
unfolding told_value floats_of_value
returns-in-Refused-clause-value c = search (number_in told_value, rules)

pub returns-in-Refused-clause-what_after : goal.returns-in-Refused-clause-what_after
unfolding told_value floats_of_value
returns-in-Refused-clause-what_after c = search (numbers-in told_value, laid_none, rules)

pub returns-in-Refused-clause-value_after : goal.returns-in-Refused-clause-value_after
unfolding told_value floats_of_value
returns-in-Refused-clause-value_after c = search (arm-of floats_of_value, rules)
