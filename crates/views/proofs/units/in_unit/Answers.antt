-- `in_unit`: an answer for each case of the value.
use Rattle.views.proofs.Entries.{unit-metres, unit-degrees, unit-tecu, unit-coefficient, unit-count, unit-residual, unit-yaw, unit-refused}
use borrow.Author.Rules.{rules}
use Rattle.views.proofs.units.in_unit.Goals as goal

pub returns-in-Metres : goal.returns-in-Metres
returns-in-Metres c = search (unit-metres, rules)

pub returns-in-Degrees : goal.returns-in-Degrees
returns-in-Degrees c = search (unit-degrees, rules)

pub returns-in-Tecu : goal.returns-in-Tecu
returns-in-Tecu c = search (unit-tecu, rules)

pub returns-in-Coefficient : goal.returns-in-Coefficient
returns-in-Coefficient c = search (unit-coefficient, rules)

pub returns-in-Count : goal.returns-in-Count
returns-in-Count c = search (unit-count, rules)

pub returns-in-OfResidual : goal.returns-in-OfResidual
returns-in-OfResidual c = search (unit-residual, rules)

pub returns-in-OfYaw : goal.returns-in-OfYaw
returns-in-OfYaw c = search (unit-yaw, rules)

pub returns-in-Refused : goal.returns-in-Refused
returns-in-Refused c = search (unit-refused, rules)
