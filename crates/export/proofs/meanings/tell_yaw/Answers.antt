-- A case for each yaw.
use Rattle.export.specs.Numbers.{laid}
use Rattle.export.specs.Meanings.{numbers_of_yaw, floats_of_yaw}
use Rattle.export.proofs.Laws.{arm-of}
use borrow.Author.Rules.{rules}
use Rattle.export.proofs.meanings.tell_yaw.Goals as goal

pub returns-in-Absent-clause-value : goal.returns-in-Absent-clause-value
unfolding numbers_of_yaw floats_of_yaw
returns-in-Absent-clause-value c = search rules

pub returns-in-Absent-clause-what_after : goal.returns-in-Absent-clause-what_after
unfolding numbers_of_yaw floats_of_yaw
returns-in-Absent-clause-what_after c = search (arm-of (λ x. laid (numbers_of_yaw x)), rules)

pub returns-in-Absent-clause-value_after : goal.returns-in-Absent-clause-value_after
unfolding numbers_of_yaw floats_of_yaw
returns-in-Absent-clause-value_after c = search (arm-of floats_of_yaw, rules)

pub returns-in-Invalid-clause-value : goal.returns-in-Invalid-clause-value
unfolding numbers_of_yaw floats_of_yaw
returns-in-Invalid-clause-value c = search rules

pub returns-in-Invalid-clause-what_after : goal.returns-in-Invalid-clause-what_after
unfolding numbers_of_yaw floats_of_yaw
returns-in-Invalid-clause-what_after c = search (arm-of (λ x. laid (numbers_of_yaw x)), rules)

pub returns-in-Invalid-clause-value_after : goal.returns-in-Invalid-clause-value_after
unfolding numbers_of_yaw floats_of_yaw
returns-in-Invalid-clause-value_after c = search (arm-of floats_of_yaw, rules)

pub returns-in-Degrees-clause-value : goal.returns-in-Degrees-clause-value
unfolding numbers_of_yaw floats_of_yaw
returns-in-Degrees-clause-value c = search rules

pub returns-in-Degrees-clause-what_after : goal.returns-in-Degrees-clause-what_after
unfolding numbers_of_yaw floats_of_yaw
returns-in-Degrees-clause-what_after c = search (arm-of (λ x. laid (numbers_of_yaw x)), rules)

pub returns-in-Degrees-clause-value_after : goal.returns-in-Degrees-clause-value_after
unfolding numbers_of_yaw floats_of_yaw
returns-in-Degrees-clause-value_after c = search (arm-of floats_of_yaw, rules)
