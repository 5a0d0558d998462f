-- A case for each residual.
use Rattle.exportentries.specs.Entries.{numbers_of_residual, floats_of_residual}
use Rattle.export.proofs.Laws.{laid_none}
use Rattle.exportentries.proofs.Laws.{residual-numbers, residual-floats}
use borrow.Author.Rules.{rules}
use Rattle.exportentries.proofs.put_residual.Goals as goal

pub returns-in-Invalid-clause-what_after : goal.returns-in-Invalid-clause-what_after
unfolding numbers_of_residual floats_of_residual
returns-in-Invalid-clause-what_after c = search (residual-numbers, rules)

pub returns-in-Invalid-clause-value_after : goal.returns-in-Invalid-clause-value_after
unfolding numbers_of_residual floats_of_residual
returns-in-Invalid-clause-value_after c = search (residual-floats, laid_none, rules)

pub returns-in-Metres-clause-what_after : goal.returns-in-Metres-clause-what_after
unfolding numbers_of_residual floats_of_residual
returns-in-Metres-clause-what_after c = search (residual-numbers, rules)

pub returns-in-Metres-clause-value_after : goal.returns-in-Metres-clause-value_after
unfolding numbers_of_residual floats_of_residual
returns-in-Metres-clause-value_after c = search (residual-floats, rules)

pub returns-in-Tecu-clause-what_after : goal.returns-in-Tecu-clause-what_after
unfolding numbers_of_residual floats_of_residual
returns-in-Tecu-clause-what_after c = search (residual-numbers, rules)

pub returns-in-Tecu-clause-value_after : goal.returns-in-Tecu-clause-value_after
unfolding numbers_of_residual floats_of_residual
returns-in-Tecu-clause-value_after c = search (residual-floats, rules)
